-- Which rows need not be looked at for refusal 26: where as many columns are named as the register is long, a row none of whose declared columns is named can
-- be completed.
use mathlib.Core.Path.{◌≡◌, sym}
use mathlib.Core.Bool.{Bool, true, false, not, ◌||◌}
use mathlib.Core.Logic.{◌⊎◌, inl, inr}
use mathlib.Core.List.{List, []}
use Prim.Native.Nat.{ℕ, ◌<◌}
use native.Mathlib.Omega.{arith}
use lib.Dec.{eqb}
use lib.ListN.{length, get_or}
use borrow.Author.Tests.{eq-eqb, ltb-false}
use Rattle.columns.specs.Columns.{Apart, either}
use Rattle.columns.specs.declared.Columns.{Columns}
use Rattle.columns.proofs.Joined.{apart_of_size}
use Rattle.columns.proofs.Listing.{by-test}
use Rattle.decoding.specs.Locating.{size_of, taps_of, named_columns, names_all}
use Rattle.decoding.specs.Remaining.{remaining, all_remaining, row_completable, completable, meets, meeting_completable}
use Rattle.decoding.proofs.SetsApart.{apart-left}
use Rattle.frame.specs.DeclaredCells.{Declared}
use Rattle.frame.specs.Shape.{is_shape}
use Rattle.frame.specs.declared.Shape.{Shape}
use Rattle.lists.specs.Tabulate.{every}
use Rattle.lists.proofs.Tabulated.{length-tabulate, get_d_tabulate, every_of, every_ext}

module _ (s : Shape) (shape : is_shape s ≡ true) (D : Declared) (S : List (List ℕ))
    (enough : names_all s (taps_of (all_remaining s D S)) (size_of (all_remaining s D S)) ≡ true) where
  rows : (h : ℕ) → h < s.rows → h < length (all_remaining s D S)
  unfolding all_remaining
  rows h below = let q = length-tabulate s.rows (λ h. remaining (D h) (get_or S h [])) in omega arith

  left : (h : ℕ) → h < s.rows → get_or (all_remaining s D S) h [] ≡ remaining (D h) (get_or S h [])
  unfolding all_remaining
  left h below = get_d_tabulate s.rows (λ h. remaining (D h) (get_or S h [])) h [] below

  row_apart : (h : ℕ) → h < s.rows → Apart (named_columns s (taps_of (all_remaining s D S))) (D h)
      → (let left : List ℕ = remaining (either (named_columns s (taps_of (all_remaining s D S))) (D h)) (get_or S h []) in
      every (length left) (λ j. eqb (get_or left j 0) 0) ≡ true)
  row_apart h below apart =
      every_of _ _ (λ j inside.
      eq-eqb _ 0 (apart-left s shape (all_remaining s D S) enough h (rows h below) (D h) (get_or S h []) (left h below) apart j inside))

  abbrev M : Columns
  M = named_columns s (taps_of (all_remaining s D S))

  pub meeting_enough : meeting_completable s D M S ≡ completable s D M S
  unfolding meeting_completable completable
  meeting_enough = every_ext s.rows _ _ (λ h below. pick h below (by-test (meets M (D h))))
    where
      pick : (h : ℕ) → h < s.rows → (meets M (D h) ≡ true) ⊎ (meets M (D h) ≡ false) → (not (meets M (D h)) || row_completable D M S h) ≡ row_completable D M S h
      pick h below (inl meet) = rw meet
      pick h below (inr none) = rw none (sym (row_apart h below (apart_of_size M (D h) (ltb-false _ _ none))))
