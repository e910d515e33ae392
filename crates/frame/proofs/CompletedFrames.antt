-- A frame with each row completed at a set of columns of its own: what it keeps, that its first check sums are 0, and that it is the only such frame.
-- The encoder completes at the check columns of each row, the repair at the marked columns.
use mathlib.Core.Path.{◌≡◌, sym, ap, ◌∙◌}
use mathlib.Core.Bool.{false}
use mathlib.Core.List.{List}
use Prim.Native.Nat.{ℕ, suc, ◌*◌, ◌≤◌, ◌<◌}
use native.Mathlib.Omega.{arith}
use lib.ListN.{length, get_or}
use Rattle.columns.specs.Columns.{has}
use Rattle.columns.specs.declared.Columns.{Columns}
use Rattle.frame.proofs.CompletionLaws.{length-completed, completed-kept, completed-below, completed-sums, completed-only}
use Rattle.field257.proofs.Members.{size, Below}
use Rattle.frame.proofs.Rows.{row-end, row-cell, length-row, length-each_row, each_row-row, same-frames}
use Rattle.frame.specs.Completion.{completed}
use Rattle.frame.specs.Encode.{each_row}
use Rattle.frame.specs.Frame.{row, cell, check_sum}

module _ (b n rows : ℕ) (J : ℕ → Columns) (f : List ℕ) (whole : length f ≡ rows * n) where
  -- the frame with row h completed at J h
  abbrev pub completed_frame : List ℕ
  completed_frame = each_row n (λ h. completed b n (J h)) rows f

  pub length-completed_frame : length completed_frame ≡ rows * n
  length-completed_frame = length-each_row n (λ h. completed b n (J h)) (λ h x. length-completed b n (J h) x) f rows (omega arith) ∙ whole

  pub completed_frame-row : (h : ℕ) → h < rows → row n completed_frame h ≡ completed b n (J h) (row n f h)
  completed_frame-row h l = each_row-row n (λ h. completed b n (J h)) (λ h x. length-completed b n (J h) x) f rows (omega arith) h l

  completed-cell : (h i : ℕ) → h < rows → i < n → cell n completed_frame h i ≡ get_or (completed b n (J h) (row n f h)) i 0
  completed-cell h i r c = sym (row-cell n completed_frame h i c) ∙ ap (λ (x : List ℕ). get_or x i 0) (completed_frame-row h r)

  pub completed_frame-kept : (h i : ℕ) → h < rows → i < n → has (J h) i ≡ false → cell n completed_frame h i ≡ cell n f h i
  completed_frame-kept h i r c e = completed-cell h i r c ∙ completed-kept b n (J h) (row n f h) i c e ∙ row-cell n f h i c

  pub completed_frame-below : ((h i : ℕ) → h < rows → i < n → has (J h) i ≡ false → cell n f h i < 257)
      → (h i : ℕ) → h < rows → i < n → cell n completed_frame h i < 257
  completed_frame-below small h i r c =
      rw (completed-cell h i r c) (completed-below b n (J h) (row n f h) (λ k l e. rw (row-cell n f h k l) (small h k r l e)) i c)

  module _ (narrow : n ≤ 256) (below : (h : ℕ) → h < rows → Below n (J h)) where
    pub completed_frame-sums : (h j : ℕ) → h < rows → j < size (J h) → check_sum b n (row n completed_frame h) (suc j) ≡ 0
    completed_frame-sums h j r l =
        ap (λ (x : List ℕ). check_sum b n x (suc j)) (completed_frame-row h r) ∙ completed-sums b n (J h) (row n f h) narrow (below h r) j l

    pub completed_frame-only : (g : List ℕ) → length g ≡ rows * n → ((h i : ℕ) → h < rows → i < n → cell n g h i < 257)
        → ((h i : ℕ) → h < rows → i < n → has (J h) i ≡ false → cell n g h i ≡ cell n f h i)
        → ((h j : ℕ) → h < rows → j < size (J h) → check_sum b n (row n g h) (suc j) ≡ 0) → g ≡ completed_frame
    completed_frame-only g lg small same zeros =
        same-frames n rows g completed_frame lg length-completed_frame (λ h i r c.
        sym (row-cell n g h i c) ∙ ap (λ (x : List ℕ). get_or x i 0) (same_row h r) ∙ row-cell n completed_frame h i c)
      where
        same_row : (h : ℕ) → h < rows → row n g h ≡ row n completed_frame h
        same_row h r =
            completed-only b n (J h) (row n f h) narrow (below h r) (row n g h)
            (length-row n g h (let e = row-end n h rows r in omega arith))
            (λ i c. rw (row-cell n g h i c) (small h i r c))
            (λ i c e. row-cell n g h i c ∙ same h i r c e ∙ sym (row-cell n f h i c))
            (λ j l. zeros h j r l)
            ∙ sym (completed_frame-row h r)
