-- The tests of a frame with declared cells as the code makes them: every undeclared cell holds a symbol where every cell of the frame as read does.
use mathlib.Core.Path.{◌≡◌, sym, ap, ap₂, ◌∙◌}
use mathlib.Core.Bool.{Bool, true, false, not, cond, ◌||◌}
use mathlib.Core.List.{List}
use mathlib.Core.Logic.{◌⊎◌, inl, inr}
use Prim.Native.Nat.{ℕ, ◌+◌, ◌*◌, ◌<◌}
use native.Mathlib.Omega.{arith}
use lib.Dec.{ltb, eqb, lit<}
use lib.ListN.{length, get_or}
use borrow.Author.Tests.{ltb-true, lt-ltb}
use Rattle.columns.specs.Columns.{has}
use Rattle.columns.proofs.Listing.{by-test}
use Rattle.lists.specs.Tabulate.{every}
use Rattle.lists.proofs.Tabulated.{every-at, every_of}
use Rattle.lists.proofs.Truth.{same_truth}
use Rattle.refusal.specs.Order.{first_of}
use Rattle.frame.specs.DeclaredCells.{Declared, as_read, declarable, undeclared_below, read_tests}
use Rattle.frame.specs.Frame.{cell}
use Rattle.frame.specs.declared.Shape.{Shape}
use Rattle.frame.proofs.ReadFrames.{length-read, read-declared, read_kept}
use Rattle.frame.proofs.Rows.{cell-place, each-symbol}

-- what follows from the tests once their answers are known
module _ {A : Type 0} (refuse : ℕ → A) (otherwise : A) (s : Shape) (D : Declared) (f : List ℕ) (size ok below : Bool) where
  abbrev answer : Bool → Bool → Bool → A
  answer l d b = cond (not l) (refuse 7) (cond (not d) (refuse 31) (cond (not b) (refuse 4) otherwise))

  pub by-read-tests : eqb (length f) (s.rows * s.columns) ≡ size → declarable s D ≡ ok → undeclared_below s D f ≡ below
      → answer size ok below ≡ first_of refuse (read_tests s D f) otherwise
  unfolding read_tests
  by-read-tests l d b = sym (ap (answer (eqb (length f) (s.rows * s.columns)) (declarable s D)) b ∙ ap₂ (λ (x y : Bool). answer x y below) l d)

module _ (s : Shape) (D : Declared) (f : List ℕ) (whole : length f ≡ s.rows * s.columns) where
  pub symbols-read : undeclared_below s D f ≡ every (length (as_read s D f)) (λ k. ltb (get_or (as_read s D f) k 0) 257)
  unfolding undeclared_below
  symbols-read = same_truth _ _ to from
    where
      -- cell i of row h is declared or holds a symbol
      pass : ℕ → ℕ → Bool
      pass h i = has (D h) i || ltb (cell s.columns f h i) 257

      symbol : ℕ → Bool
      symbol k = ltb (get_or (as_read s D f) k 0) 257

      read_below : (h i : ℕ) → h < s.rows → i < s.columns → pass h i ≡ true → cell s.columns (as_read s D f) h i < 257
      read_below h i r c e = pick (by-test (has (D h) i))
        where
          pick : (has (D h) i ≡ true) ⊎ (has (D h) i ≡ false) → cell s.columns (as_read s D f) h i < 257
          pick (inl t) = rw (read-declared s D f whole h i r c t) (lit< tt)
          pick (inr out) =
              rw (read_kept s D f whole h i r c out)
              (ltb-true (cell s.columns f h i) 257 (sym (ap (λ (b : Bool). b || ltb (cell s.columns f h i) 257) out) ∙ e))

      to : every s.rows (λ h. every s.columns (pass h)) ≡ true → every (length (as_read s D f)) symbol ≡ true
      to e =
          every_of (length (as_read s D f)) symbol (λ k l. lt-ltb _ 257
          (each-symbol (λ (x : ℕ). x < 257) s.columns s.rows (as_read s D f) (length-read s D f whole)
          (λ h i r c. read_below h i r c (every-at s.columns (pass h) (every-at s.rows _ e h r) i c)) k l))

      from : every (length (as_read s D f)) symbol ≡ true → every s.rows (λ h. every s.columns (pass h)) ≡ true
      from e = every_of s.rows _ (λ h r. every_of s.columns (pass h) (λ i c. pick h i r c (by-test (has (D h) i))))
        where
          pick : (h i : ℕ) → h < s.rows → i < s.columns → (has (D h) i ≡ true) ⊎ (has (D h) i ≡ false) → pass h i ≡ true
          pick h i r c (inl t) = ap (λ (b : Bool). b || ltb (cell s.columns f h i) 257) t
          pick h i r c (inr out) =
              ap₂ (λ (b : Bool) (x : ℕ). b || ltb x 257) out (sym (read_kept s D f whole h i r c out))
              ∙ every-at (length (as_read s D f)) symbol e (h * s.columns + i)
              (omega (arith, length-read s D f whole, cell-place s.columns s.rows h i r c))
