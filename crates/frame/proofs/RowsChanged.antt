-- The rows of a frame changed one after the other, each lent on as its own part of the frame.
use mathlib.Core.Path.{◌≡◌, refl, sym, ap, ◌∙◌}
use mathlib.Core.List.{List}
use Prim.Native.Nat.{ℕ, ◌+◌, ◌-◌, ◌*◌, ◌≤◌, ◌<◌, zero-le}
use native.Mathlib.Nat.{le_antisymm}
use native.Mathlib.Numerals.{add-one}
use native.Mathlib.Omega.{arith}
use lib.ListN.{length, take, drop}
use borrow.Rule.Slice.PartMut.{mid_of, put_mid, mid_len, same_len_mid}
use Rattle.frame.specs.Encode.{with_row, each_row}
use Rattle.frame.specs.Frame.{row}
use Rattle.frame.proofs.Rows.{each_row-zero, each_row-suc}

module _ (n rows : ℕ) (change : ℕ → List ℕ → List ℕ) (f : List ℕ) where
  -- the first h rows are changed
  pub record RowsChanged (h : ℕ) (frame : List ℕ) : Type 0 where
    pub passed : h ≤ rows
    pub size : length frame ≡ length f
    pub entries : frame ≡ each_row n change h f

  pub changed-none : RowsChanged 0 f
  changed-none = record { passed = zero-le; size = refl; entries = sym (each_row-zero n change f) }

  pub changed-all : (h : ℕ) (frame : List ℕ) → RowsChanged h frame → rows ≤ h → frame ≡ each_row n change rows f
  changed-all h frame a le = a.entries ∙ ap (λ (k : ℕ). each_row n change k f) (le_antisymm a.passed le)

  module _ (h : ℕ) (frame : List ℕ) (a : RowsChanged h frame) (inside : h * n + n ≤ length f) where
    -- row h as it is lent
    abbrev part : List ℕ
    part = mid_of (h * n) (h * n + n - h * n) frame

    width : h * n + n - h * n ≡ n
    width = omega arith

    pub length_part : length part ≡ n
    length_part = let q = mid_len (h * n) (h * n + n) frame (let s = a.size in omega arith) in omega arith

    pub changed-more : (y : List ℕ) → h < rows → length y ≡ n → y ≡ change h part
        → RowsChanged (h + 1) (put_mid (h * n) (h * n + n - h * n) frame y)
    changed-more y l fits e = record {
      passed = omega arith;
      size = same_len_mid (h * n) (h * n + n - h * n) frame y (fits ∙ sym length_part) ∙ a.size;
      entries =
          ap (λ (k : ℕ). put_mid (h * n) k frame y) width
          ∙ ap (with_row n frame h) (e ∙ ap (λ (k : ℕ). change h (take k (drop (h * n) frame))) width)
          ∙ ap (λ (x : List ℕ). with_row n x h (change h (row n x h))) a.entries
          ∙ sym (ap (λ (k : ℕ). each_row n change k f) (add-one h) ∙ each_row-suc n change h f);
    }
