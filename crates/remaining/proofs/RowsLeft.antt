-- What is left of the check sums of the rows of a shape: how much that is, that its symbols are below 257, and what has been written of it after some rows.
use mathlib.Core.Path.{◌≡◌, sym, ap, ap₂, subst⁻¹, ◌∙◌}
use mathlib.Core.Bool.{true}
use mathlib.Core.List.{List, []}
use Prim.Native.Nat.{ℕ, ◌+◌, ◌-◌, ◌≤◌, ◌<◌, zero-le}
use native.Mathlib.Nat.{le_antisymm}
use native.Mathlib.Numerals.{add-one}
use native.Mathlib.Omega.{arith}
use lib.ListN.{length, get_or, set, take, drop}
use borrow.Rule.Slice.PartMut.{mid_of, put_mid}
use Rattle.columns.specs.Columns.{members}
use Rattle.columns.specs.declared.Columns.{Columns}
use Rattle.decoding.specs.Remaining.{remaining, all_remaining}
use Rattle.decoding.proofs.RemainingSums.{length-remaining, remaining-below}
use Rattle.frame.specs.DeclaredCells.{Declared, checks_left, declarable, erasures}
use Rattle.frame.specs.Frame.{sums_before, held_sequences}
use Rattle.frame.specs.Shape.{checks_of, is_shape}
use Rattle.frame.specs.declared.Shape.{Shape}
use Rattle.frame.proofs.Declarable.{declared-few}
use Rattle.frame.proofs.HeldParts.{part_of}
use Rattle.frame.proofs.HeldRows.{sums-room, length_part, part_held, part-lent}
use Rattle.frame.proofs.Shapes.{Ranges, shape-ranges}
use Rattle.lists.specs.Tabulate.{tabulate, joined}
use Rattle.lists.specs.Total.{total}
use Rattle.lists.proofs.Appending.{Appended, appended-none, appended-more}
use Rattle.lists.proofs.Filling.{Filled, filled_none, filled_more, filled-entry}
use Rattle.lists.proofs.Joined.{joined-part, length-joined-total, replicate-each, append-each, joined-each}
use Rattle.lists.proofs.Tabulated.{get_d_tabulate}
use Rattle.lists.proofs.Totals.{total-zero, total-suc, total-within, total-bound}
use Rattle.lists.proofs.Zeros.{zeros}
use Rattle.remaining.specs.SequencesLeft.{SequencesLeft}

-- ---- how much is left

module _ (s : Shape) (shape : is_shape s ≡ true) where
  ranges : Ranges s
  ranges = shape-ranges s shape

  left-most : (D : Declared) (h : ℕ) → h < s.rows → checks_left s D h ≤ 64
  left-most D h l = let m = (ranges.checks h l).most in omega arith

  -- what is left of all rows fits 512 places
  left-fits : (D : Declared) → total s.rows (checks_left s D) ≤ 512
  left-fits D = let rows = ranges.rows-most in omega (arith, total-bound s.rows 64 (checks_left s D) (left-most D))

-- ---- what has been written

module _ (s : Shape) (D : Declared) (sums : List ℕ) where
  -- what is left of row h
  abbrev left_of : ℕ → List ℕ
  left_of h = remaining (D h) (part_of s sums h)

  -- where the next row lies, of 8 at most: its sums and what is left of them end within 512 places
  pub record RowRoom (h at count : ℕ) : Type 0 where
    pub rows-most : s.rows ≤ 8
    pub few : h < s.rows → erasures D h ≤ checks_of s h
    pub most : h < s.rows → checks_of s h ≤ 64
    pub sums-end : h < s.rows → at + checks_of s h ≤ 512
    pub left_end : h < s.rows → count + checks_left s D h ≤ 512

  -- after h rows: the sums of `at` places are passed, and what is left of them stands in `count` places
  pub record LeftBefore (h at count : ℕ) (lengths symbols : List ℕ) : Type 0 where
    pub rows-passed : h ≤ s.rows
    pub sums-passed : at ≡ sums_before s h
    pub places : count ≡ total h (checks_left s D)
    pub room : RowRoom h at count
    pub counted : Filled (checks_left s D) (zeros 8) h lengths
    pub appended : Appended 512 left_of h count symbols

  module _ (shape : is_shape s ≡ true) (ok : declarable s D ≡ true) where
    row_room : (h at count : ℕ) → at ≡ sums_before s h → count ≡ total h (checks_left s D) → RowRoom h at count
    row_room h at count passed places =
        let r = shape-ranges s shape in
        let fits = left-fits s shape D in
        record {
          rows-most = r.rows-most;
          few = λ l. declared-few s D ok h l;
          most = λ l. (r.checks h l).most;
          sums-end = λ l. omega (arith, sums-room s shape h l);
          left_end = λ l. omega (arith, total-within (checks_left s D) h s.rows l);
        }

    pub left-none : LeftBefore 0 0 0 (zeros 8) (zeros 512)
    left-none =
        let passed = sym (total-zero (checks_of s)) in
        let places = sym (total-zero (checks_left s D)) in
        record {
          rows-passed = zero-le;
          sums-passed = passed;
          places = places;
          room = row_room 0 0 0 passed places;
          counted = filled_none (checks_left s D) (zeros 8);
          appended = appended-none 512 left_of;
        }

  module _ (shape : is_shape s ≡ true) (sized : length sums ≡ 512) where
    length-left : (h : ℕ) → h < s.rows → length (left_of h) ≡ checks_left s D h
    length-left h l = length-remaining (D h) (part_of s sums h) ∙ ap (λ (n : ℕ). n - length (members (D h))) (length_part s shape sums sized h l)

    left_at : (h : ℕ) → h < s.rows → get_or (all_remaining s D (held_sequences s sums)) h [] ≡ left_of h
    unfolding all_remaining
    left_at h l = get_d_tabulate s.rows _ h [] l ∙ ap (remaining (D h)) (part_held s sums h l)

    module _ (h at count : ℕ) (lengths symbols : List ℕ) (a : LeftBefore h at count lengths symbols) (l : h < s.rows) where
      one_more : (f : ℕ → ℕ) → total (h + 1) f ≡ total h f + f h
      one_more f = ap (λ (k : ℕ). total k f) (add-one h) ∙ total-suc h f

      -- the next row is written: y is what is left of its sums as they are lent, n how much that is
      pub left-more : declarable s D ≡ true → (c n : ℕ) (J : Columns) (y : List ℕ) → c ≡ checks_of s h → J ≡ D h → n ≡ length (members J) → count + (c - n) ≤ 512
          → y ≡ remaining J (mid_of at (at + c - at) sums)
          → LeftBefore (h + 1) (at + c) (count + (c - n)) (set lengths h (c - n)) (put_mid count (count + (c - n) - count) symbols y)
      left-more ok c n J y e same m room written = record {
        rows-passed = omega arith;
        sums-passed = passed;
        places = places;
        room = row_room shape ok (h + 1) (at + c) (count + (c - n)) passed places;
        counted =
            filled_more (checks_left s D) (zeros 8) h (c - n) lengths a.counted
            (let z = a.counted.size in let r = (shape-ranges s shape).rows-most in omega arith) left;
        appended =
            appended-more 512 left_of h count (count + (c - n)) symbols y a.appended (ap (λ (k : ℕ). count + k) (left ∙ sym (length-left h l))) room
            (written ∙ ap₂ remaining same (part-lent s sums h at c a.sums-passed e));
      }
        where
          left : c - n ≡ checks_left s D h
          left = ap₂ ◌-◌ e (m ∙ ap (λ (K : Columns). length (members K)) same)

          passed : at + c ≡ sums_before s (h + 1)
          passed = ap₂ ◌+◌ a.sums-passed e ∙ sym (one_more (checks_of s))

          places : count + (c - n) ≡ total (h + 1) (checks_left s D)
          places = ap₂ ◌+◌ a.places left ∙ sym (one_more (checks_left s D))

    -- where what is left of a row begins
    before-left : (h : ℕ) → h ≤ s.rows → length (joined (tabulate h left_of)) ≡ total h (checks_left s D)
    before-left h l = length-joined-total (checks_left s D) h left_of (λ k m. length-left k (omega arith))

    pub left-all : (h at count : ℕ) (lengths symbols : List ℕ) → LeftBefore h at count lengths symbols → s.rows ≤ h
        → SequencesLeft s D sums (record { lengths = lengths; symbols = symbols; count = count })
    left-all h at count lengths symbols a le = record {
      count = a.places ∙ ap (λ (k : ℕ). total k (checks_left s D)) (le_antisymm a.rows-passed le);
      lengths = λ k l. filled-entry (checks_left s D) (zeros 8) h lengths a.counted k (omega arith);
      symbols = λ k l.
          ap₂ (λ (m p : ℕ). take m (drop p symbols)) (sym (length-left k l)) (sym (before-left k (omega arith)))
          ∙ ap (λ (x : List ℕ). take (length (left_of k)) (drop (length (joined (tabulate k left_of))) x)) a.appended.entries
          ∙ joined-part left_of k h (omega arith) (zeros (512 - count)) ∙ sym (left_at k l);
      below = λ k.
          subst⁻¹ (λ (x : List ℕ). get_or x k 0 < 257) a.appended.entries
          (append-each (λ y. y < 257) 0 (joined (tabulate h left_of)) (zeros (512 - count))
          (joined-each (λ y. y < 257) 0 (omega arith) h left_of (λ g. remaining-below (D g) (part_of s sums g)))
          (replicate-each (λ y. y < 257) 0 (omega arith) (512 - count)) k);
    }
