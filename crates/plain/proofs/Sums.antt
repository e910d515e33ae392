-- Sums one term at a time.
use Rattle.std.proofs.Common.{◌≡◌, ℕ, zero, suc, ◌+◌, ◌<◌, ◌≤◌, sym, refl, ap, ◌∙◌, add-one, arith}
use native.Mathlib.Decide.{ℕ_discrete}
use Rattle.plain.proofs.Choices.{capped-add}
use Rattle.plain.proofs.Remainders.{rem-add}
use Rattle.plain.specs.Plain.{capped, rem, sum}

pub sum-zero : (f : ℕ → ℕ) → sum 0 f ≡ 0
unfolding sum
sum-zero f = refl

pub sum-suc : (n : ℕ) (f : ℕ → ℕ) → sum (suc n) f ≡ sum n f + f n
unfolding sum
sum-suc n f = refl

pub sum_more : (n : ℕ) (f : ℕ → ℕ) → sum (n + 1) f ≡ sum n f + f n
sum_more n f = ap (λ (k : ℕ). sum k f) (add-one n) ∙ sum-suc n f

-- a sum kept modulo p grows by a term
pub sum-rem-more : (p n : ℕ) (f : ℕ → ℕ) {d e : ℕ} → d ≡ rem (sum n f) p → e ≡ rem (d + f n) p → e ≡ rem (sum (n + 1) f) p
sum-rem-more p n f h q =
    q ∙ ap (λ (x : ℕ). rem (x + f n) p) h ∙ rem-add (sum n f) (f n) p ∙ ap (λ (x : ℕ). rem x p) (sym (sum_more n f))

-- a sum that is cut off grows by a term
pub sum-capped-more : (n : ℕ) (f : ℕ → ℕ) {d e : ℕ} → d ≡ capped (sum n f) → e ≡ capped (d + f n) → e ≡ capped (sum (n + 1) f)
sum-capped-more n f h q =
    q ∙ ap (λ (x : ℕ). capped (x + f n)) h ∙ capped-add (sum n f) (f n) ∙ ap capped (sym (sum_more n f))

-- terms h is below n, so that its part of the sum ends within it
pub sum-within : (f : ℕ → ℕ) (h n : ℕ) → h < n → sum h f + f h ≤ sum n f
sum-within f h zero l = absurd (let z : ⊥ = omega arith in z)
sum-within f h (suc n) l = pick (ℕ_discrete h n) (λ q. sum-within f h n q)
  where
    pick : Dec (h ≡ n) → (h < n → sum h f + f h ≤ sum n f) → sum h f + f h ≤ sum (suc n) f
    pick (yes e) w = rw (sum-suc, e) (omega arith)
    pick (no e) w = let s = sum-suc n f in let q = w (omega arith) in omega arith
