-- Walking over the members of a set in rising order, from each to the next marked column: after d members the walk stands at member d, or past the last.
use mathlib.Core.Path.{◌≡◌, sym, ap, ◌∙◌, subst₂}
use mathlib.Core.Bool.{true, false, ◌&&◌, and-eq-true_iff, true≢false}
use mathlib.Core.Logic.{◌⊎◌, inl, inr}
use Prim.Native.Nat.{ℕ, suc, ◌+◌, ◌≤◌, ◌<◌, zero-le}
use native.Mathlib.Nat.{eq-or-lt_of_le, le_antisymm}
use native.Mathlib.Numerals.{add-one}
use native.Mathlib.Omega.{arith}
use lib.Dec.{leb}
use lib.ListN.{length, get_or}
use borrow.Author.Tests.{le-leb, leb-true}
use Rattle.columns.specs.Columns.{has, members}
use Rattle.columns.specs.Listed.{count, least}
use Rattle.columns.specs.declared.Columns.{Columns}
use Rattle.columns.proofs.Least.{Least, least-is}
use Rattle.columns.proofs.Listing.{by-test, count-zero, count-pass, count_skip, count-lt, listed_at, length-listed}

module _ (c : Columns) where
  -- after d members the walk stands at i
  pub record Walk (d i : ℕ) : Type 0 where
    pub within : i ≤ 256
    pub marked : i < 256 → has c i ≡ true
    pub place : count i (has c) ≡ d

  -- the next marked column at or after `from`
  abbrev pub next_at : ℕ → ℕ
  next_at from = least 256 (λ k. leb from k && has c k)

  pub none_between : (from k : ℕ) → from ≤ k → k < next_at from → has c k ≡ false
  none_between from k l h = pick (by-test (has c k))
    where
      pick : (has c k ≡ true) ⊎ (has c k ≡ false) → has c k ≡ false
      pick (inl e) =
          absurd (true≢false (sym ((and-eq-true_iff (leb from k) (has c k)).1 (le-leb from k l, e)) ∙ (least-is 256 (λ k. leb from k && has c k)).before k h))
      pick (inr e) = e

  found : (from : ℕ) → Least 256 (λ k. leb from k && has c k) (next_at from)
  found from = least-is 256 (λ k. leb from k && has c k)

  mark : (from : ℕ) → next_at from < 256 → (leb from (next_at from) ≡ true) × (has c (next_at from) ≡ true)
  mark from h = (and-eq-true_iff (leb from (next_at from)) (has c (next_at from))).0 ((found from).here h)

  pub not-before : (from : ℕ) → from ≤ 256 → from ≤ next_at from
  not-before from l = at (eq-or-lt_of_le (found from).within)
    where
      at : (next_at from ≡ 256) ⊎ (next_at from < 256) → from ≤ next_at from
      at (inl e) = omega arith
      at (inr h) = leb-true from (next_at from) (mark from h).0

  pub next_within : (from : ℕ) → next_at from ≤ 256
  next_within from = (found from).within

  pub before-next : (from i : ℕ) → i ≡ next_at from → i < 256 → from ≤ i
  before-next from i e h = rw e (leb-true from (next_at from) (mark from (rw (sym e) h)).0)

  pub arrived : (from : ℕ) → from ≤ 256 → Walk (count from (has c)) (next_at from)
  arrived from l = record {
    within = (found from).within;
    marked = λ h. (mark from h).1;
    place = count_skip from (next_at from) (has c) (not-before from l) (none_between from);
  }

  pub walk_start : (i : ℕ) → i ≡ next_at 0 → Walk 0 i
  walk_start i e = subst₂ Walk (count-zero (has c)) (sym e) (arrived 0 zero-le)

  module _ (d i : ℕ) (w : Walk d i) where
    pub walk-next : (j : ℕ) → i < 256 → j ≡ next_at (i + 1) → Walk (d + 1) j
    walk-next j h e =
        subst₂ Walk (ap (λ (k : ℕ). count k (has c)) (add-one i) ∙ count-pass i (has c) (w.marked h) ∙ ap suc w.place ∙ sym (add-one d))
        (sym e) (arrived (i + 1) (omega arith))

    pub walk-rises : (j : ℕ) → i < 256 → j ≡ next_at (i + 1) → i < j
    walk-rises j h e = let l = not-before (i + 1) (omega arith) in omega arith

    pub walk-member : i < 256 → (d < length (members c)) × (get_or (members c) d 0 ≡ i)
    walk-member h = (
      (let l = count-lt i 256 (has c) h (w.marked h) in let e = length-listed 256 (has c) in let p = w.place in omega arith),
      ap (λ (k : ℕ). get_or (members c) k 0) (sym w.place) ∙ listed_at i 256 (has c) h (w.marked h),
    )

    pub walk_end : 256 ≤ i → d ≡ length (members c)
    walk_end h =
        sym w.place ∙ ap (λ (k : ℕ). count k (has c)) (le_antisymm w.within h) ∙ sym (length-listed 256 (has c))
