-- Where every number below n that passes P passes Q, no more pass P than Q; and if as many do, the two tests agree.
use mathlib.Core.Path.{◌≡◌, sym, ap, ◌∙◌}
use mathlib.Core.Bool.{Bool, true, false}
use mathlib.Core.Logic.{◌⊎◌, inl, inr}
use Prim.Native.Nat.{ℕ, zero, suc, ◌≤◌, ◌<◌}
use native.Mathlib.Nat.{eq-or-lt_of_le, not-suc-le-zero}
use native.Mathlib.Omega.{arith}
use Rattle.columns.specs.Listed.{count}
use Rattle.columns.proofs.Listing.{count-zero, count-pass, count_fail, by-test}

abbrev pub Within : ℕ → (ℕ → Bool) → (ℕ → Bool) → Type 0
Within n P Q = (k : ℕ) → k < n → P k ≡ true → Q k ≡ true

lower : (n : ℕ) (P Q : ℕ → Bool) → Within (suc n) P Q → Within n P Q
lower n P Q w k l = w k (omega arith)

pub within-le : (n : ℕ) (P Q : ℕ → Bool) → Within n P Q → count n P ≤ count n Q
within-le zero P Q w = omega (arith, count-zero P)
within-le (suc n) P Q w = step (within-le n P Q (lower n P Q w)) (by-test (P n)) (by-test (Q n))
  where
    step : count n P ≤ count n Q → (P n ≡ true) ⊎ (P n ≡ false) → (Q n ≡ true) ⊎ (Q n ≡ false) → count (suc n) P ≤ count (suc n) Q
    step ih (inl p) b = omega (arith, count-pass n P p, count-pass n Q (w n (omega arith) p))
    step ih (inr p) (inl q) = omega (arith, count_fail n P p, count-pass n Q q)
    step ih (inr p) (inr q) = omega (arith, count_fail n P p, count_fail n Q q)

-- with as many, the tests agree at the top, and as many pass below it
top_same : (n : ℕ) (P Q : ℕ → Bool) → Within (suc n) P Q → count (suc n) P ≡ count (suc n) Q → (P n ≡ Q n) × (count n P ≡ count n Q)
top_same n P Q w e = step (by-test (P n)) (by-test (Q n))
  where
    step : (P n ≡ true) ⊎ (P n ≡ false) → (Q n ≡ true) ⊎ (Q n ≡ false) → (P n ≡ Q n) × (count n P ≡ count n Q)
    step (inl p) b =
        let q = w n (omega arith) p in
        (p ∙ sym q, omega (arith, count-pass n P p, count-pass n Q q))
    step (inr p) (inl q) =
        absurd (let z : ⊥ = omega (arith, within-le n P Q (lower n P Q w), count_fail n P p, count-pass n Q q) in z)
    step (inr p) (inr q) = (p ∙ sym q, omega (arith, count_fail n P p, count_fail n Q q))

pub within_same : (n : ℕ) (P Q : ℕ → Bool) → Within n P Q → count n P ≡ count n Q → (k : ℕ) → k < n → P k ≡ Q k
within_same zero P Q w e k l = absurd (not-suc-le-zero l)
within_same (suc n) P Q w e k l =
    let (top, rest) = top_same n P Q w e in
    at top (within_same n P Q (lower n P Q w) rest k) (eq-or-lt_of_le (let h : k ≤ n = omega arith in h))
  where
    at : P n ≡ Q n → (k < n → P k ≡ Q k) → (k ≡ n) ⊎ (k < n) → P k ≡ Q k
    at top ih (inl q) = ap P q ∙ top ∙ ap Q (sym q)
    at top ih (inr h) = ih h
