-- The rows of a frame as read completed one after the other, each at its marked and declared columns: the sums of the next row begin where those of
-- the rows before end, and each row can be mended.
use mathlib.Core.Path.{◌≡◌, sym, ap, ap₂, subst⁻¹, ◌∙◌}
use mathlib.Core.Bool.{true}
use mathlib.Core.List.{List}
use mathlib.Core.Logic.{inr}
use Prim.Native.Nat.{ℕ, ◌+◌, ◌-◌, ◌*◌, ◌≤◌, ◌<◌}
use native.Mathlib.Decide.{dec_lt}
use native.Mathlib.Numerals.{add-one}
use native.Mathlib.Omega.{arith}
use lib.ListN.{length, get_or, take, drop}
use borrow.Author.Tests.{leb-true}
use borrow.Rule.Slice.PartMut.{mid_of, put_mid}
use Rattle.columns.specs.Columns.{has, members, either}
use Rattle.columns.specs.declared.Columns.{Columns}
use Rattle.columns.proofs.Joined.{either-below, size-either}
use Rattle.completion.specs.Mendable.{MendableRow}
use Rattle.decoding.specs.Remaining.{left_reach, mended}
use Rattle.erasures.specs.Fillable.{FillableRows}
use Rattle.frame.specs.Completion.{completed}
use Rattle.frame.specs.DeclaredCells.{Declared, checks_left, declared_by}
use Rattle.frame.specs.Frame.{row, check_sums, row_sums, sums_before}
use Rattle.frame.specs.Shape.{checks_of}
use Rattle.frame.specs.declared.Shape.{Shape}
use Rattle.frame.proofs.CompletionLaws.{length-completed}
use Rattle.frame.proofs.Declarable.{good_cells, declared-few}
use Rattle.frame.proofs.HeldSums.{held-row, held-length, length-row_sums}
use Rattle.frame.proofs.RowPlace.{RowPlace, row-place}
use Rattle.frame.proofs.Rows.{row-cell, length-row}
use Rattle.frame.proofs.RowsAhead.{row-ahead}
use Rattle.frame.proofs.RowsChanged.{changed-none, changed-all}
use Rattle.frame.proofs.RowsAtSets.{RowsAtSets, more-at_sets}
use Rattle.frame.proofs.Shapes.{shape-ranges}
use Rattle.lists.proofs.Tabulated.{every-at}
use Rattle.lists.proofs.Totals.{total-zero, total-suc, total-bound}

module _ (s : Shape) (declared : List ℕ) (M : Columns) (sums f : List ℕ) where
  abbrev b : ℕ
  b = s.exponent

  abbrev n : ℕ
  n = s.columns

  abbrev D : Declared
  D = declared_by declared

  -- h rows are filled, and the sums of row h begin at `at`
  pub record RowsFilled (h at : ℕ) (frame : List ℕ) : Type 0 where
    pub place : at ≡ sums_before s h
    pub rows : RowsAtSets (completed s.exponent) (length-completed s.exponent) s.columns s.rows (λ h. either M (declared_by declared h)) f h frame

  pub filled_none : RowsFilled 0 0 f
  filled_none = record { place = sym (total-zero (checks_of s)); rows = changed-none _ _ _ f }

  pub filled-all : (h at : ℕ) (frame : List ℕ) → RowsFilled h at frame → s.rows ≤ h → frame ≡ mended s (declared_by declared) M f
  unfolding mended
  filled-all h at frame a le = changed-all _ _ _ f h frame a.rows le

  module _ (asked : FillableRows s declared M sums f) (h at : ℕ) (frame : List ℕ) (a : RowsFilled h at frame) (less : h < s.rows) where
    -- where the row lies
    pub place_of : RowPlace s (length f) h
    place_of = row-place s (length f) h asked.shape asked.whole less

    -- its sums end within those that are held
    pub sums-end : at + checks_of s h ≤ 512
    sums-end =
        let r = shape-ranges s asked.shape in
        let rows = r.rows-most in
        let before = total-bound h 64 (checks_of s) (λ k l. (r.checks k (omega arith)).most) in
        let most = (r.checks h less).most in
        let begins = a.place in
        omega arith

    pub sums-long : length sums ≡ 512
    sums-long = ap length asked.held ∙ held-length s f asked.shape

    module _ (count : ℕ) (c : count ≡ checks_of s h) where
      abbrev lent : List ℕ
      lent = mid_of (h * n) (h * n + n - h * n) frame

      abbrev lent-sums : List ℕ
      lent-sums = mid_of at (at + count - at) sums

      is_row : lent ≡ row n f h
      is_row = row-ahead n s.rows _ (λ h x. length-completed b n _ x) f h frame a.rows place_of.inside

      are_sums : lent-sums ≡ row_sums s f h
      are_sums =
          ap₂ (λ (k m : ℕ). take k (drop m sums)) (let q : at + count - at ≡ checks_of s h = omega arith in q) a.place
          ∙ ap (λ (l : List ℕ). take (checks_of s h) (drop (sums_before s h) l)) asked.held ∙ held-row s f h less

      width : length lent ≡ n
      width = ap length is_row ∙ length-row n f h place_of.inside

      number : length lent-sums ≡ checks_of s h
      number = ap length are_sums ∙ length-row_sums s f h

      -- the columns to be filled are in the frame, and no more than the row has checks
      inside : (i : ℕ) → has (either M (D h)) i ≡ true → i < n
      inside = either-below M (D h) n (λ i low. asked.below i) (λ i low e. pick i low e (dec_lt i n))
        where
          pick : (i : ℕ) → i < 256 → has (D h) i ≡ true → Dec (i < n) → i < n
          pick i low e (yes l) = l
          pick i low e (no l) =
              absurd (good_cells s D asked.declarable (inr (h, i, (let p = place_of in omega arith), low, e, inr (let q : n ≤ i = omega arith in q))))

      few : length (members (either M (D h))) ≤ checks_of s h
      unfolding left_reach
      few =
          let left = leb-true (length (members M)) (checks_left s D h) (every-at s.rows _ asked.reach h less) in
          let declared-cells = declared-few s D asked.declarable h less in
          let both = size-either M (D h) in
          omega arith

      module _ (set : Columns) (e : set ≡ either M (D h)) where
        pub row_mendable : MendableRow b set lent-sums lent
        unfolding row_sums
        row_mendable = record {
          exponent = (shape-ranges s asked.shape).exponent-most;
          narrow = (let w = width in let p = place_of in omega arith);
          small = λ k short.
              let l : k < n = let w = width in omega arith in
              subst⁻¹ (λ (x : ℕ). x < 257) (ap (λ (x : List ℕ). get_or x k 0) is_row ∙ row-cell n f h k l)
              (asked.small (h * n + k) (let p = place_of in omega arith));
          few = (let q = number in let p = place_of in omega arith);
          held =
              are_sums ∙ ap₂ (λ (k : ℕ) (x : List ℕ). check_sums b k (checks_of s h) x) (sym width) (sym is_row)
              ∙ ap (λ (m : ℕ). check_sums b (length lent) m lent) (sym number);
          below = λ i t.
              let l = inside i (ap (λ (J : Columns). has J i) (sym e) ∙ t) in
              let w = width in
              omega arith;
          reach = (let l = few in let q = number in let r = ap (λ (J : Columns). length (members J)) e in omega arith);
        }

        pub filled_more : (y : List ℕ) → y ≡ completed b (length lent) set lent
            → RowsFilled (h + 1) (at + count) (put_mid (h * n) (h * n + n - h * n) frame y)
        filled_more y made = record {
          place = ap₂ ◌+◌ a.place c ∙ sym (ap (sums_before s) (add-one h) ∙ total-suc h (checks_of s));
          rows = more-at_sets (completed b) (length-completed b) n s.rows _ f h frame a.rows place_of.inside set y less e made;
        }
