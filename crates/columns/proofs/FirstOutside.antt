-- The first column outside a set: found by passing those before it, and within the row where the set has fewer columns than the row.
use mathlib.Core.Path.{◌≡◌, sym, ap, ◌∙◌}
use mathlib.Core.Bool.{Bool, true, false, not}
use Prim.Native.Nat.{ℕ, ◌+◌, ◌≤◌, ◌<◌, zero-le}
use native.Mathlib.Decide.{dec_lt, ℕ_discrete}
use native.Mathlib.Nat.{not-suc-le-zero}
use native.Mathlib.Omega.{arith}
use lib.ListN.{length}
use borrow.Author.Tests.{not-true, not-false}
use Rattle.columns.specs.Columns.{has, members}
use Rattle.columns.specs.Listed.{least}
use Rattle.columns.specs.declared.Columns.{Columns}
use Rattle.columns.proofs.Least.{least-is, least_unique}
use Rattle.columns.proofs.Listing.{count-all, count_mono, length-listed}

-- ---- passing

module _ (n : ℕ) (P : ℕ → Bool) where
  -- none before k passes P
  pub record Passed (k : ℕ) : Type 0 where
    pub within : k ≤ n
    pub before : (i : ℕ) → i < k → P i ≡ false

  pub passed_none : Passed 0
  passed_none = record { within = zero-le; before = λ i l. absurd (not-suc-le-zero l) }

  module _ (k : ℕ) (a : Passed k) where
    pub passed-more : k < n → P k ≡ false → Passed (k + 1)
    passed-more l e = record { within = omega arith; before = λ i b. pick i b (ℕ_discrete i k) }
      where
        pick : (i : ℕ) → i < k + 1 → Dec (i ≡ k) → P i ≡ false
        pick i b (yes q) = ap P q ∙ e
        pick i b (no q) = a.before i (omega arith)

    pub passed_out : P k ≡ true → k ≡ least n P
    passed_out e = least_unique n P k record { within = a.within; before = a.before; here = λ l. e }

    pub passed-all : n ≤ k → n ≡ least n P
    passed-all le =
        let q : k ≡ n = let w = a.within in omega arith in
        sym q ∙ least_unique n P k record { within = a.within; before = a.before; here = λ l. absurd (let z : ⊥ = omega arith in z) }

-- ---- outside

module _ (n : ℕ) (J : Columns) (narrow : n ≤ 256) (fewer : length (members J) < n) (i : ℕ) (first : i ≡ least n (λ k. not (has J k))) where
  pub first-inside : i < n
  first-inside = pick (dec_lt i n)
    where
      pick : Dec (i < n) → i < n
      pick (yes l) = l
      pick (no l) =
          let all = count-all n (has J) (λ k b. not-false _ ((least-is n (λ k. not (has J k))).before k (omega arith))) in
          absurd (let z : ⊥ = omega (arith, count_mono n 256 (has J) narrow, length-listed 256 (has J)) in z)

  pub first_out : has J i ≡ false
  first_out =
      ap (has J) first
      ∙ not-true _ ((least-is n (λ k. not (has J k))).here (let l = first-inside in omega arith))
