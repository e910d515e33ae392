-- Sums with the same terms or terms of the same remainder, with one term set apart, with the first apart, and with none but the first.
use Rattle.std.proofs.Common.{◌≡◌, ℕ, zero, suc, ◌+◌, ◌<◌, ◌≤◌, sym, ap, ◌∙◌, ap₂, lt-suc_self, arith}
use native.Mathlib.Nat.{le_step}
use native.Mathlib.Decide.{ℕ_discrete}
use Rattle.plain.proofs.Congruences.{equal, same_sum}
use Rattle.plain.proofs.Sums.{sum-zero, sum-suc}
use Rattle.plain.specs.Plain.{rem, sum}

pub sum_ext : (n : ℕ) (f g : ℕ → ℕ) → ((j : ℕ) → j < n → f j ≡ g j) → sum n f ≡ sum n g
sum_ext zero f g e = sum-zero f ∙ sym (sum-zero g)
sum_ext (suc n) f g e = sum-suc n f ∙ ap₂ ◌+◌ (sum_ext n f g (λ j h. e j (le_step h))) (e n (lt-suc_self n)) ∙ sym (sum-suc n g)

-- terms that leave the same remainder
pub sum_same : (p n : ℕ) (f g : ℕ → ℕ) → ((j : ℕ) → j < n → rem (f j) p ≡ rem (g j) p) → rem (sum n f) p ≡ rem (sum n g) p
sum_same p zero f g e = equal p (sum-zero f ∙ sym (sum-zero g))
sum_same p (suc n) f g e =
    equal p (sum-suc n f) ∙ same_sum p (sum n f) (sum n g) (f n) (g n) (sum_same p n f g (λ j h. e j (le_step h))) (e n (lt-suc_self n))
    ∙ equal p (sym (sum-suc n g))

-- what the terms apart from term m add up to, whatever that term is
pub sum-apart : (n m : ℕ) (f : ℕ → ℕ) → m < n →
    (rest : ℕ) × ((g : ℕ → ℕ) → ((j : ℕ) → j < n → (j ≡ m → ⊥) → g j ≡ f j) → sum n g ≡ rest + g m)
sum-apart zero m f less = absurd (let z : ⊥ = omega arith in z)
sum-apart (suc n) m f less = pick (ℕ_discrete m n) (λ q. sum-apart n m f q)
  where
    Apart : ℕ → Type 0
    Apart k = (rest : ℕ) × ((g : ℕ → ℕ) → ((j : ℕ) → j < k → (j ≡ m → ⊥) → g j ≡ f j) → sum k g ≡ rest + g m)

    pick : Dec (m ≡ n) → (m < n → Apart n) → Apart (suc n)
    pick (yes e) before =
        (sum n f, λ g same. sum-suc n g ∙ ap₂ ◌+◌ (sum_ext n g f (λ j h. same j (omega arith) (omega arith))) (ap g (sym e)))
    pick (no e) before =
        let (rest, parts) = before (omega arith) in (
          rest + f n,
          λ g same.
              let s = sum-suc n g in let q = parts g (λ j h. same j (omega arith)) in
              let l = same n (omega arith) (omega arith) in omega arith,
        )

-- the first term, and the terms after it
pub sum_head : (n : ℕ) (f : ℕ → ℕ) → sum (suc n) f ≡ f 0 + sum n (λ k. f (suc k))
sum_head zero f = let s = sum-suc 0 f in let z = sum-zero f in let e = sum-zero (λ k. f (suc k)) in omega arith
sum_head (suc n) f =
    let s = sum-suc (suc n) f in let q = sum_head n f in let t = sum-suc n (λ k. f (suc k)) in omega arith

-- none but the first
pub sum_first : (n : ℕ) (f : ℕ → ℕ) → 0 < n → ((j : ℕ) → 1 ≤ j → j < n → f j ≡ 0) → sum n f ≡ f 0
sum_first zero f some zeros = absurd (let z : ⊥ = omega arith in z)
sum_first (suc zero) f some zeros = let s = sum-suc 0 f in let z = sum-zero f in omega arith
sum_first (suc (suc n)) f some zeros =
    let s = sum-suc (suc n) f in let q = sum_first (suc n) f (omega arith) (λ j l h. zeros j l (omega arith)) in
    let z = zeros (suc n) (omega arith) (omega arith) in omega arith
