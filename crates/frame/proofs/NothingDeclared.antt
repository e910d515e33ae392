-- With nothing declared a frame is read as it stands, and refused as it is with no cells to declare.
use mathlib.Core.Path.{◌≡◌, refl, sym, ap, ◌∙◌}
use mathlib.Core.Bool.{Bool, true, false, not, ◌&&◌, ◌||◌, and-eq-true_iff}
use mathlib.Core.List.{List}
use mathlib.Core.Logic.{◌⊎◌, inl, inr}
use Prim.Native.Nat.{ℕ, ◌+◌, ◌*◌, ◌/◌, ◌%◌, ◌<◌}
use native.Mathlib.Omega.{arith}
use lib.Dec.{leb, ltb, eqb}
use lib.ListN.{length, get_or}
use borrow.Author.Tests.{eqb-true, le-leb}
use Rattle.columns.specs.Columns.{bit, has}
use Rattle.columns.proofs.Bits.{bit_of_zero}
use Rattle.columns.proofs.Listing.{by-test, length-listed, count_skip, count-zero}
use Rattle.lists.specs.Tabulate.{every}
use Rattle.lists.proofs.Entries.{get_d_part}
use Rattle.lists.proofs.Tabulated.{every-at, every_of}
use Rattle.refusal.specs.Order.{first_of}
use Rattle.frame.specs.DeclaredCells.{Declared, erasures, declared_by, nothing_declared, as_read, marks_inside, declarable, undeclared_below, read_tests}
use Rattle.frame.specs.Frame.{frame_tests}
use Rattle.frame.specs.Shape.{checks_of, is_shape}
use Rattle.frame.specs.declared.Shape.{Shape}
use Rattle.frame.proofs.FrameTests.{by-frame-tests}
use Rattle.frame.proofs.ReadFrames.{read_none}
use Rattle.frame.proofs.ReadTests.{by-read-tests, symbols-read}
use Rattle.frame.proofs.Shapes.{shape-ranges}

pub none-declared : (words : List ℕ) → nothing_declared words ≡ true → (h i : ℕ) → h < 8 → i < 256 → has (declared_by words h) i ≡ false
unfolding nothing_declared has
none-declared words none h i row low =
    ap (λ (x : ℕ). bit x (i % 64))
    (get_d_part (4 * h) 4 words (i / 64) 0 (omega arith) ∙ eqb-true _ 0 (every-at 32 (λ k. eqb (get_or words k 0) 0) none (4 * h + i / 64) (omega arith)))
    ∙ bit_of_zero (i % 64)

module _ (s : Shape) (shape : is_shape s ≡ true) (words : List ℕ) (none : nothing_declared words ≡ true) where
  abbrev D : Declared
  D = declared_by words

  -- as the laws of nothing declared ask it
  pub rows-unmarked : (h i : ℕ) → h < s.rows → i < 256 → has (declared_by words h) i ≡ false
  rows-unmarked h i r low = none-declared words none h i (let q = (shape-ranges s shape).rows-most in omega arith) low

  pub read_as_it_stands : (f : List ℕ) → length f ≡ s.rows * s.columns → as_read s (declared_by words) f ≡ f
  read_as_it_stands f whole = read_none s D f whole (λ h i r c. rows-unmarked h i r (let q = (shape-ranges s shape).columns-most in omega arith))

  no_cells : (h : ℕ) → h < s.rows → erasures D h ≡ 0
  no_cells h r = length-listed 256 (has (D h)) ∙ count_skip 0 256 (has (D h)) (omega arith) (λ i _ low. rows-unmarked h i r low) ∙ count-zero (has (D h))

  pub nothing-declarable : declarable s (declared_by words) ≡ true
  unfolding declarable marks_inside
  nothing-declarable =
      (and-eq-true_iff (every 8 (marks_inside s D)) (every s.rows (λ h. leb (erasures D h) (checks_of s h)))).1 (
        every_of 8 (marks_inside s D) (λ h row. every_of 256 _ (λ i low.
            ap (λ (b : Bool). not b || (ltb h s.rows && ltb i s.columns)) (none-declared words none h i row low))),
        every_of s.rows _ (λ h r. le-leb (erasures D h) (checks_of s h) (omega (arith, no_cells h r))),
      )

  -- the refusals are those of a frame with no cells to declare
  pub tests-none : {A : Type 0} (refuse : ℕ → A) (otherwise : A) (f : List ℕ)
      → first_of refuse (frame_tests s f) otherwise ≡ first_of refuse (read_tests s (declared_by words) f) otherwise
  tests-none refuse otherwise f = pick (by-test (eqb (length f) (s.rows * s.columns)))
    where
      below : Bool
      below = every (length f) (λ k. ltb (get_or f k 0) 257)

      same-below : length f ≡ s.rows * s.columns → undeclared_below s D f ≡ below
      same-below whole = symbols-read s D f whole ∙ ap (λ (x : List ℕ). every (length x) (λ k. ltb (get_or x k 0) 257)) (read_as_it_stands f whole)

      pick : (eqb (length f) (s.rows * s.columns) ≡ true) ⊎ (eqb (length f) (s.rows * s.columns) ≡ false)
          → first_of refuse (frame_tests s f) otherwise ≡ first_of refuse (read_tests s D f) otherwise
      pick (inl e) =
          sym (by-frame-tests refuse otherwise s f true below e refl)
          ∙ by-read-tests refuse otherwise s D f true true below e nothing-declarable (same-below (eqb-true _ _ e))
      pick (inr e) =
          sym (by-frame-tests refuse otherwise s f false below e refl)
          ∙ by-read-tests refuse otherwise s D f false _ _ e refl refl
