-- The columns of a set mended one after the other in every row of a frame: each row is completed at the set in the end.
use mathlib.Core.Path.{◌≡◌, refl, sym, ap, ◌∙◌}
use mathlib.Core.List.{List}
use Prim.Native.Nat.{ℕ, ◌+◌, ◌*◌, ◌≤◌, ◌<◌}
use native.Mathlib.Omega.{arith}
use lib.ListN.{length, get_or}
use Rattle.columns.specs.Columns.{members}
use Rattle.columns.specs.declared.Columns.{Columns}
use Rattle.columns.proofs.Walk.{Walk, next_at, walk_start, walk-next}
use Rattle.frame.specs.Completion.{completed}
use Rattle.frame.specs.Encode.{each_row}
use Rattle.frame.specs.Frame.{row, row_sums}
use Rattle.frame.specs.Shape.{checks_of}
use Rattle.frame.specs.declared.Shape.{Shape}
use Rattle.frame.proofs.CompletedFrames.{completed_frame, completed_frame-row, length-completed_frame}
use Rattle.field257.proofs.Members.{Below}
use Rattle.frame.proofs.Rows.{cell-place, each_row-row, length-each_row, length-row, row-cell, row-end, same-frames}
use Rattle.completion.specs.Mending.{mended_column}
use Rattle.weights.proofs.ColumnWeights.{coefficients_of}
use Rattle.frame.proofs.HeldParts.{part_of}
use Rattle.completion.proofs.MendedRow.{mended-completed}
use Rattle.completion.proofs.RowMending.{length-mended_cell, mended_before, mended_row, mended-none, mended-more, mended-all}

module _ (J : Columns) (s : Shape) (sums f : List ℕ) where
  abbrev n : ℕ
  n = s.columns

  abbrev b : ℕ
  b = s.exponent

  -- the first d columns of the set are mended in every row, and the walk stands at i
  pub record FrameMending (d i : ℕ) (l : List ℕ) : Type 0 where
    pub walk : Walk J d i
    pub size : length l ≡ length f
    pub rows : (h : ℕ) → h < s.rows → row n l h ≡ mended_before s.exponent J n (part_of s sums h) (row n f h) i

  module _ (whole : length f ≡ s.rows * n) where
    row_inside : (h : ℕ) → h < s.rows → h * n + n ≤ length f
    row_inside h r = let q = row-end n h s.rows r in omega arith

    pub mending_none : (i : ℕ) → i ≡ next_at J 0 → FrameMending 0 i f
    mending_none i e = record {
      walk = walk_start J i e;
      size = refl;
      rows = λ h r. mended-none b J n (part_of s sums h) (row n f h) i e (length-row n f h (row_inside h r));
    }

    module _ (d i : ℕ) (l : List ℕ) (w : FrameMending d i l) where
      pub mending_more : (j : ℕ) (coefficients y : List ℕ) → i < 256 → j ≡ next_at J (i + 1) → coefficients ≡ coefficients_of s.exponent J i
          → y ≡ mended_column s coefficients sums i l → FrameMending (d + 1) j y
      unfolding mended_column
      mending_more j coefficients y inside next c e = record {
        walk = walk-next J d i w.walk j inside next;
        size = ap length e ∙ length-each_row n _ (λ h. length-mended_cell n coefficients (part_of s sums h) i) l s.rows long ∙ w.size;
        rows =
            λ h r.
            ap (λ (z : List ℕ). row n z h) e
            ∙ each_row-row n _ (λ h. length-mended_cell n coefficients (part_of s sums h) i) l s.rows long h r
            ∙ mended-more b J n (part_of s sums h) (row n f h) d i w.walk j coefficients (row n l h) inside next c (w.rows h r);
      }
        where
          long : s.rows * n ≤ length l
          long = let q = w.size in omega arith

    module _ (narrow : n ≤ 256) (small : (k : ℕ) → k < length f → get_or f k 0 < 257)
        (held : (h : ℕ) → h < s.rows → part_of s sums h ≡ row_sums s f h)
        (below : Below n J) (reach : (h : ℕ) → h < s.rows → length (members J) ≤ checks_of s h) where
      -- row h mended is row h completed
      row-completed : (h : ℕ) → h < s.rows → mended_row b J n (part_of s sums h) (row n f h) ≡ completed b n J (row n f h)
      unfolding row_sums
      row-completed h r =
          mended-completed b J n (checks_of s h) (part_of s sums h) (row n f h) narrow (length-row n f h (row_inside h r))
          (λ k l. rw (row-cell n f h k l) (small (h * n + k) (let p = cell-place n s.rows h k r l in omega arith)))
          (held h r) below (reach h r)

      pub mending_all : (d i : ℕ) (l : List ℕ) → FrameMending d i l → 256 ≤ i → l ≡ each_row n (λ h. completed s.exponent n J) s.rows f
      mending_all d i l w past =
          same-frames n s.rows l frame (w.size ∙ whole) (length-completed_frame b n s.rows (λ h. J) f whole) (λ h i r c.
          sym (row-cell n l h i c) ∙ ap (λ (x : List ℕ). get_or x i 0) (same_row h r) ∙ row-cell n frame h i c)
        where
          frame : List ℕ
          frame = completed_frame b n s.rows (λ h. J) f whole

          same_row : (h : ℕ) → h < s.rows → row n l h ≡ row n frame h
          same_row h r =
              w.rows h r ∙ mended-all b J n (part_of s sums h) (row n f h) i narrow past ∙ row-completed h r
              ∙ sym (completed_frame-row b n s.rows (λ h. J) f whole h r)
