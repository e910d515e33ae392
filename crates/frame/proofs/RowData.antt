-- The data of a row that is still to be encoded: it is as it was, and so below 257 where the data of the frame was.
use mathlib.Core.Path.{◌≡◌, sym, ap, ◌∙◌}
use mathlib.Core.Bool.{Bool, true, ◌||◌}
use mathlib.Core.List.{List}
use Prim.Native.Nat.{ℕ, ◌+◌, ◌-◌, ◌*◌, ◌≤◌, ◌<◌}
use native.Mathlib.Omega.{arith}
use borrow.Author.Tests.{ltb-true, le-ltb}
use borrow.Rule.Slice.PartMut.{mid_of}
use lib.Dec.{ltb}
use lib.ListN.{length, get_or}
use Rattle.columns.specs.declared.Columns.{Columns}
use Rattle.frame.specs.Completion.{completed}
use Rattle.frame.specs.Encode.{data_below}
use Rattle.frame.specs.Frame.{cell}
use Rattle.frame.specs.Shape.{checks_of}
use Rattle.frame.specs.declared.Shape.{Shape}
use Rattle.frame.proofs.CompletionLaws.{length-completed}
use Rattle.frame.proofs.Rows.{row-cell, each_row-later}
use Rattle.lists.proofs.Entries.{get_d_part}
use Rattle.lists.proofs.Tabulated.{every-at}
use Rattle.frame.proofs.RowsAtSets.{RowsAtSets}

module _ (s : Shape) (f : List ℕ) (small : data_below s f ≡ true) (h : ℕ) (less : h < s.rows) where
  abbrev n : ℕ
  n = s.columns

  pub data_small : (i : ℕ) → checks_of s h ≤ i → i < n → cell n f h i < 257
  unfolding data_below
  data_small i le l =
      ltb-true (cell n f h i) 257
      (ap (λ (b : Bool). b || ltb (cell n f h i) 257) (sym (le-ltb i (checks_of s h) le))
      ∙ every-at n _ (every-at s.rows _ small h less) i l)

  pub row_small : (sets : ℕ → Columns) (frame : List ℕ) → RowsAtSets (completed s.exponent) (length-completed s.exponent) n s.rows sets f h frame
      → h * n + n ≤ length f → (i : ℕ) → checks_of s h ≤ i → i < n → get_or (mid_of (h * n) (h * n + n - h * n) frame) i 0 < 257
  row_small sets frame a inside i le l =
      let same =
      get_d_part (h * n) (h * n + n - h * n) frame i 0 (omega arith)
      ∙ ap (λ (e : List ℕ). cell n e h i) a.entries ∙ sym (row-cell n _ h i l)
      ∙ ap (λ (x : List ℕ). get_or x i 0)
      (each_row-later n (λ h. completed s.exponent n (sets h)) (λ h x. length-completed s.exponent n (sets h) x) f h (omega arith) h (omega arith) inside)
      ∙ row-cell n f h i l
      in
      let d = data_small i le l in
      omega arith
