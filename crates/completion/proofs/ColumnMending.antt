-- A column of a frame mended row after row: where a row lies, where the sums of the next row begin, and which rows are mended.
use mathlib.Core.Path.{◌≡◌, sym, ap, ap₂, ◌∙◌}
use mathlib.Core.List.{List}
use Prim.Native.Nat.{ℕ, ◌+◌, ◌-◌, ◌*◌, ◌≤◌, ◌<◌}
use native.Mathlib.Numerals.{add-one}
use native.Mathlib.Omega.{arith}
use lib.ListN.{length, take, drop}
use borrow.Rule.Slice.PartMut.{mid_of, put_mid}
use Rattle.lists.proofs.Totals.{total-zero, total-suc}
use Rattle.frame.specs.Frame.{sums_before}
use Rattle.frame.specs.Shape.{checks_of}
use Rattle.frame.specs.declared.Shape.{Shape}
use Rattle.frame.proofs.Rows.{row-end}
use Rattle.frame.proofs.RowsChanged.{RowsChanged, changed-none, changed-more, changed-all, length_part}
use Rattle.completion.specs.Mendable.{RowsLent}
use Rattle.completion.specs.Mending.{mended_cell, mended_column}
use Rattle.frame.proofs.HeldParts.{part_of}
use Rattle.completion.proofs.RowMending.{length-mended_cell}

-- row h lies within the frame
pub row_within : (s : Shape) (sums f : List ℕ) (h : ℕ) → RowsLent s sums f → h < s.rows → h * s.columns + s.columns ≤ length f
row_within s sums f h a l = let e = row-end s.columns h s.rows l in let q = a.whole in omega arith

-- another frame as long is lent as well
pub still-lent : (s : Shape) (sums f l : List ℕ) → RowsLent s sums f → length l ≡ length f → RowsLent s sums l
still-lent s sums f l a e = record {
  rows-most = a.rows-most;
  narrow = a.narrow;
  checks-most = a.checks-most;
  whole = e ∙ a.whole;
  sums-room = a.sums-room;
  sums-small = a.sums-small;
}

module _ (s : Shape) (coefficients sums : List ℕ) (i : ℕ) (f : List ℕ) where
  abbrev n : ℕ
  n = s.columns

  abbrev mend : ℕ → List ℕ → List ℕ
  mend h = mended_cell n coefficients (part_of s sums h) i

  -- h rows are mended, and the sums of row h begin at `at`
  pub record Mended (h at : ℕ) (l : List ℕ) : Type 0 where
    pub place : at ≡ sums_before s h
    pub rows : RowsChanged n s.rows mend f h l

  pub mended-none : Mended 0 0 f
  mended-none = record { place = sym (total-zero (checks_of s)); rows = changed-none n s.rows mend f }

  module _ (h at : ℕ) (l : List ℕ) (a : Mended h at l) (inside : h * n + n ≤ length f) where
    -- row h as it is lent
    abbrev part : List ℕ
    part = mid_of (h * n) (h * n + n - h * n) l

    pub mended-more : (count : ℕ) (y : List ℕ) → h < s.rows → count ≡ checks_of s h
        → y ≡ mended_cell (length part) coefficients (mid_of at (at + count - at) sums) i part
        → Mended (h + 1) (at + count) (put_mid (h * n) (h * n + n - h * n) l y)
    mended-more count y next c e = record {
      place = ap₂ ◌+◌ a.place c ∙ sym (ap (sums_before s) (add-one h) ∙ total-suc h (checks_of s));
      rows = changed-more n s.rows mend f h l a.rows inside y next (ap length is ∙ length-mended_cell n coefficients (part_of s sums h) i part) is;
    }
      where
        is : y ≡ mend h part
        is =
            e ∙ ap (λ (k : ℕ). mended_cell k coefficients (mid_of at (at + count - at) sums) i part) (length_part n s.rows mend f h l a.rows inside)
            ∙ ap₂ (λ (k m : ℕ). mended_cell n coefficients (take k (drop m sums)) i part)
            (let q : at + count - at ≡ checks_of s h = omega arith in q) a.place

  pub mended-all : (h at : ℕ) (l : List ℕ) → Mended h at l → s.rows ≤ h → l ≡ mended_column s coefficients sums i f
  unfolding mended_column
  mended-all h at l a le = changed-all n s.rows mend f h l a.rows le
