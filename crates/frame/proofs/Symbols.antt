-- Every entry of a well-formed frame is a symbol, and a frame of which cells are declared is well-formed as it is read.
use mathlib.Core.Bool.{true, false}
use mathlib.Core.Path.{◌≡◌}
use mathlib.Core.List.{List}
use mathlib.Core.Logic.{◌⊎◌, inl, inr}
use Prim.Native.Nat.{ℕ, ◌<◌}
use native.Mathlib.Decide.{dec_lt}
use native.Mathlib.Omega.{arith}
use lib.Dec.{lit<}
use lib.ListN.{length, get_or, get_or-eq_default}
use Rattle.columns.specs.Columns.{has}
use Rattle.columns.proofs.Listing.{by-test}
use Rattle.frame.specs.Frame.{WellFormed, cell}
use Rattle.frame.specs.DeclaredCells.{Declared, as_read, WellFormedRead}
use Rattle.frame.specs.declared.Shape.{Shape}
use Rattle.frame.proofs.ReadFrames.{length-read, read-declared, read_kept}
use Rattle.frame.proofs.Rows.{each-symbol}

pub symbols-below : (s : Shape) (f : List ℕ) → WellFormed s f → (k : ℕ) → get_or f k 0 < 257
symbols-below s f w k = pick (dec_lt k (length f))
  where
    pick : Dec (k < length f) → get_or f k 0 < 257
    pick (yes inside) = w.symbols k inside
    pick (no past) = rw (get_or-eq_default f 0 {n = k} (omega arith)) (lit< tt)

pub read_well_formed : (s : Shape) (D : Declared) (f : List ℕ) → WellFormedRead s D f → WellFormed s (as_read s D f)
read_well_formed s D f w = record {
  size = length-read s D f w.size;
  symbols = each-symbol (λ (x : ℕ). x < 257) s.columns s.rows (as_read s D f) (length-read s D f w.size)
      (λ h i r c. pick h i r c (by-test (has (D h) i)));
}
  where
    pick : (h i : ℕ) → h < s.rows → i < s.columns → (has (D h) i ≡ true) ⊎ (has (D h) i ≡ false) → cell s.columns (as_read s D f) h i < 257
    pick h i r c (inl declared) = rw (read-declared s D f w.size h i r c declared) (lit< tt)
    pick h i r c (inr out) = rw (read_kept s D f w.size h i r c out) (w.symbols h i r c out)
