-- The encoder: each row completed at its check columns 0 .. N_h − 1 is a codeword, keeps the data, and is the only such frame.
use mathlib.Core.Path.{◌≡◌, sym, ap, ◌∙◌}
use mathlib.Core.Bool.{true, false, false≢true}
use mathlib.Core.List.{List}
use Prim.Native.Nat.{ℕ, suc, ◌+◌, ◌-◌, ◌*◌, ◌≤◌, ◌<◌}
use native.Mathlib.Decide.{dec_lt}
use native.Mathlib.Omega.{arith}
use borrow.Author.Tests.{ltb-true, ltb-false, le-ltb}
use lib.Dec.{ltb}
use lib.ListN.{length}
use Rattle.columns.specs.Columns.{has, columns_of}
use Rattle.columns.specs.declared.Columns.{Columns}
use Rattle.columns.proofs.Listing.{length-listed, count-below}
use Rattle.columns.proofs.Marks.{has-columns_of, has-past, columns_of-sound, members-columns_of}
use Rattle.frame.proofs.CompletedFrames.{length-completed_frame, completed_frame-kept, completed_frame-below, completed_frame-sums, completed_frame-only}
use Rattle.field257.proofs.Members.{size, Below}
use Rattle.frame.proofs.Rows.{cell-place, each-symbol}
use Rattle.frame.proofs.Shapes.{Ranges}
use Rattle.frame.specs.Encode.{encoded, SameData}
use Rattle.frame.specs.Frame.{row, cell, check_sum, Coded}
use Rattle.frame.specs.Shape.{checks_of}
use Rattle.frame.specs.declared.Shape.{Shape}

-- ---- the columns below m

abbrev pub first_columns : ℕ → Columns
first_columns m = columns_of (λ i. ltb i m)

pub size-first : (m : ℕ) → m ≤ 256 → size (first_columns m) ≡ m
size-first m le = ap length (members-columns_of (λ i. ltb i m)) ∙ length-listed 256 (λ i. ltb i m) ∙ count-below m 256 le

pub has_first : (m i : ℕ) → has (first_columns m) i ≡ true → i < m
has_first m i e = pick (dec_lt i 256)
  where
    pick : Dec (i < 256) → i < m
    pick (yes h) = ltb-true i m (sym (has-columns_of (λ i. ltb i m) i h) ∙ e)
    pick (no h) =
        absurd (false≢true (sym (has-past (first_columns m) (columns_of-sound (λ i. ltb i m)) i (omega arith)) ∙ e))

has-not-first : (m i : ℕ) → i < 256 → m ≤ i → has (first_columns m) i ≡ false
has-not-first m i h le = has-columns_of (λ i. ltb i m) i h ∙ le-ltb i m le

-- ---- the encoded frame

-- e has the data of f, and is the only codeword that does
pub record OnlyCoded (s : Shape) (f e : List ℕ) : Type 0 where
  pub coded : Coded s e
  pub same_data : SameData s f e
  pub only : (g : List ℕ) → Coded s g → SameData s f g → g ≡ e

module _ (s : Shape) (f : List ℕ) (ranges : Ranges s) (whole : length f ≡ s.rows * s.columns)
    (small : (h i : ℕ) → h < s.rows → checks_of s h ≤ i → i < s.columns → cell s.columns f h i < 257) where
  abbrev check_columns : ℕ → Columns
  check_columns h = first_columns (checks_of s h)

  narrow : s.columns ≤ 256
  narrow = ranges.columns-most

  size-checks : (h : ℕ) → h < s.rows → size (check_columns h) ≡ checks_of s h
  size-checks h r = size-first (checks_of s h) (let b = (ranges.checks h r).most in omega arith)

  checks-below : (h : ℕ) → h < s.rows → Below s.columns (check_columns h)
  checks-below h r i e = let a = has_first (checks_of s h) i e in let b = (ranges.checks h r).below in omega arith

  -- a cell outside the check columns is a data cell
  not_check : (h i : ℕ) → i < s.columns → has (check_columns h) i ≡ false → checks_of s h ≤ i
  not_check h i c e = ltb-false i (checks_of s h) (sym (has-columns_of (λ k. ltb k (checks_of s h)) i (let b = narrow in omega arith)) ∙ e)

  pub encoder : OnlyCoded s f (encoded s f)
  unfolding encoded
  encoder = record {
    coded = record {
      well_formed = record {
        size = length-completed_frame s.exponent s.columns s.rows check_columns f whole;
        symbols = each-symbol (λ x. x < 257) s.columns s.rows (encoded s f)
            (length-completed_frame s.exponent s.columns s.rows check_columns f whole)
            (completed_frame-below s.exponent s.columns s.rows check_columns f whole (λ h i r c e. small h i r (not_check h i c e) c));
      };
      codeword = λ h j r one within.
          let q : suc (j - 1) ≡ j = omega arith in
          ap (check_sum s.exponent s.columns (row s.columns (encoded s f) h)) (sym q)
          ∙ completed_frame-sums s.exponent s.columns s.rows check_columns f whole narrow checks-below h (j - 1) r
          (let e = size-checks h r in omega arith);
    };
    same_data = λ h i r d c.
        sym (completed_frame-kept s.exponent s.columns s.rows check_columns f whole h i r c
        (has-not-first (checks_of s h) i (let b = narrow in omega arith) d));
    only = λ g coded same.
        completed_frame-only s.exponent s.columns s.rows check_columns f whole narrow checks-below g coded.well_formed.size
        (λ h i r c. coded.well_formed.symbols (h * s.columns + i)
        (let e = coded.well_formed.size in let p = cell-place s.columns s.rows h i r c in omega arith))
        (λ h i r c e. sym (same h i r (not_check h i c e) c))
        (λ h j r l. coded.codeword h (suc j) r (omega arith) (let e = size-checks h r in omega arith));
  }
