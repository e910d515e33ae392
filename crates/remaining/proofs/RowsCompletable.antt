-- Whether rows can be completed, row after row: what is left of a row as it is tested, and what is asked and told where a row is tested.
use mathlib.Core.Path.{◌≡◌, sym, ap, ap₂, subst⁻¹, ◌∙◌}
use mathlib.Core.Bool.{Bool, true}
use mathlib.Core.List.{List, []}
use Prim.Native.Nat.{ℕ, ◌+◌, ◌-◌, ◌≤◌, ◌<◌}
use native.Mathlib.Numerals.{add-one}
use native.Mathlib.Omega.{arith}
use lib.ListN.{length, get_or}
use borrow.Author.Tests.{leb-true}
use borrow.Rule.Slice.PartMut.{mid_of, put_mid}
use Rattle.columns.specs.Columns.{either, members}
use Rattle.columns.specs.declared.Columns.{Columns}
use Rattle.columns.proofs.Joined.{size-either}
use Rattle.decoding.specs.Remaining.{remaining, left_reach}
use Rattle.decoding.proofs.RemainingSums.{length-remaining}
use Rattle.field257.specs.Table.{table}
use Rattle.frame.specs.DeclaredCells.{Declared, checks_left}
use Rattle.frame.specs.Frame.{sums_before, held_sequences}
use Rattle.frame.specs.Shape.{checks_of}
use Rattle.frame.specs.declared.Shape.{Shape}
use Rattle.frame.proofs.Declarable.{declared-few}
use Rattle.frame.proofs.HeldParts.{part-below}
use Rattle.frame.proofs.HeldRows.{sums-room, length_part, part_held, part-lent}
use Rattle.frame.proofs.Shapes.{shape-ranges}
use Rattle.lists.proofs.Parts.{part-replaced}
use Rattle.lists.proofs.Tabulated.{every-at}
use Rattle.lists.proofs.Testing.{Tested, tested-none}
use Rattle.lists.proofs.Totals.{total-zero, total-suc}
use Rattle.lists.proofs.Zeros.{zeros}
use Rattle.remaining.specs.Testable.{passes_row, Testable, TestableAt}

-- ---- a row

-- what is left of the sums x when the m columns of J are taken out is written over the first of 64 zeros
module _ (J : Columns) (x y : List ℕ) (m : ℕ) (few : length x ≤ 64) (e : m ≡ length (members J)) (written : y ≡ remaining J x) where
  abbrev n : ℕ
  n = length x - m

  fits : length y ≡ n - 0
  fits = ap length written ∙ length-remaining J x ∙ (let q : length x - length (members J) ≡ n - 0 = omega arith in q)

  pub written-part : mid_of 0 (n - 0) (put_mid 0 (n - 0) (zeros 64) y) ≡ remaining J x
  written-part = part-replaced 0 (n - 0) (zeros 64) y (omega arith) fits ∙ written

-- ---- the rows

module _ (s : Shape) (D : Declared) (M : Columns) (sums : List ℕ) where
  -- whether row h passes
  abbrev pub row_test : ℕ → Bool
  row_test h = passes_row M (D h) (get_or (held_sequences s sums) h [])

  -- the rows before h pass; their sums stand in `at` places, and those of the next row end within 512
  pub record TestedBefore (h at : ℕ) : Type 0 where
    pub rows-most : s.rows ≤ 8
    pub sums-passed : at ≡ sums_before s h
    pub sums-end : h < s.rows → at + checks_of s h ≤ 512
    pub tested : Tested s.rows row_test h true

  module _ (asked : Testable s D M sums) where
    before : (h at : ℕ) → at ≡ sums_before s h → Tested s.rows row_test h true → TestedBefore h at
    before h at passed t = record {
      rows-most = (shape-ranges s asked.shape).rows-most;
      sums-passed = passed;
      sums-end = λ l. omega (arith, sums-room s asked.shape h l);
      tested = t;
    }

    pub before-none : TestedBefore 0 0
    before-none = before 0 0 (sym (total-zero (checks_of s))) (tested-none _ _)

  module _ (asked : Testable s D M sums) (sized : length sums ≡ 512) (h at : ℕ) (passed : at ≡ sums_before s h) (l : h < s.rows) where
    few : length (members (either M (D h))) ≤ checks_of s h
    unfolding left_reach
    few =
        let reach : length (members M) ≤ checks_left s D h = leb-true (length (members M)) (checks_left s D h) (every-at s.rows _ asked.reach h l) in
        omega (arith, size-either M (D h), declared-few s D asked.declared h l)

    -- the row's cells J and its sums as they are lent, c of them
    module _ (c : ℕ) (J : Columns) (e : c ≡ checks_of s h) (same : J ≡ D h) where
      abbrev lent : List ℕ
      lent = mid_of at (at + c - at) sums

      lent-held : lent ≡ get_or (held_sequences s sums) h []
      lent-held = part-lent s sums h at c passed e ∙ sym (part_held s sums h l)

      pub row-testable : (powers : List ℕ) → powers ≡ table → TestableAt powers (either M J) lent
      row-testable powers known =
          let size : length lent ≡ checks_of s h = ap length (part-lent s sums h at c passed e) ∙ length_part s asked.shape sums sized h l in
          record {
            powers_known = known;
            few = subst⁻¹ (λ (K : Columns). length (members (either M K)) ≤ length lent) same (let f = few in omega arith);
            sums-few = (let m = ((shape-ranges s asked.shape).checks h l).most in omega arith);
            sums-small = part-below sums asked.sums-small at (at + c - at);
          }

      -- what is answered of the lent sums is the test of the row
      pub row-tested : (b : Bool) → b ≡ passes_row M J lent → row_test h ≡ b
      row-tested b r = sym (r ∙ ap₂ (λ (K : Columns) (x : List ℕ). passes_row M K x) same lent-held)

      pub before-more : Tested s.rows row_test (h + 1) true → TestedBefore (h + 1) (at + c)
      before-more = before asked (h + 1) (at + c) (ap₂ ◌+◌ passed e ∙ sym (ap (sums_before s) (add-one h) ∙ total-suc h (checks_of s)))
