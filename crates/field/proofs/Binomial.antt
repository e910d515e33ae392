-- Binomial coefficients: k · C(n, k) = n · C(n − 1, k − 1), the power of a + 1, and that a prime p divides C(p, k) for 0 < k < p.
use mathlib.Core.Path.{◌≡◌, refl, ap, ◌∙◌}
use Prim.Native.Nat.{ℕ, zero, suc, ◌+◌, ◌*◌, ◌%◌, ◌^◌, ◌<◌}
use native.Mathlib.Nat.{pow-zero, pow-suc, mod-eq_of_lt, mul-mod_right, zero-mul}
use native.Mathlib.Omega.{arith}
use Rattle.field.specs.Prime.{Prime}
use Rattle.lists.specs.Total.{total}
use Rattle.field.proofs.Euclid.{euclid}
use Rattle.lists.proofs.Totals.{total-zero, total-suc, total_ext, total-add, total-mul, total_head}

-- the number of ways to choose k of n, by Pascal's rule
pub choose : ℕ → ℕ → ℕ
choose n zero = 1
choose zero (suc k) = 0
choose (suc n) (suc k) = choose n k + choose n (suc k)

pub choose-none : (n : ℕ) → choose n 0 ≡ 1
unfolding choose
choose-none n = refl

choose-empty : (k : ℕ) → choose 0 (suc k) ≡ 0
unfolding choose
choose-empty k = refl

pascal : (n k : ℕ) → choose (suc n) (suc k) ≡ choose n k + choose n (suc k)
unfolding choose
pascal n k = refl

choose-above : (n k : ℕ) → n < k → choose n k ≡ 0
choose-above n zero h = absurd (let z : ⊥ = omega arith in z)
choose-above zero (suc k) h = choose-empty k
choose-above (suc n) (suc k) h = rw (pascal, choose-above n k (omega arith), choose-above n (suc k) (omega arith))

pub choose-all : (n : ℕ) → choose n n ≡ 1
choose-all zero = choose-none 0
choose-all (suc n) = rw (pascal, choose-all n, choose-above n (suc n) (omega arith))

absorb : (n k : ℕ) → suc k * choose (suc n) (suc k) ≡ suc n * choose n k
absorb zero zero = rw (pascal, choose-none 0, choose-empty 0)
absorb zero (suc k) = rw (pascal, choose-empty k, choose-empty (suc k)) (omega arith)
absorb (suc n) zero = let before = rw (choose-none n) at (absorb n 0) in rw (pascal, choose-none) (omega arith)
absorb (suc n) (suc k) =
    rw (pascal (suc n) (suc k)) (omega (arith, ap (λ (x : ℕ). suc n * x) (pascal n k), absorb n k, absorb n (suc k)))

-- term k of (1 + a)ⁿ
abbrev term : ℕ → ℕ → ℕ → ℕ
term a n k = choose n k * a ^ k

term-step : (a n k : ℕ) → term a (suc n) (suc k) ≡ term a n k * a + term a n (suc k)
term-step a n k =
    rw (pascal n k, pow-suc a k)
    (let e : (choose n k + choose n (suc k)) * (a ^ k * a) ≡ choose n k * a ^ k * a + choose n (suc k) * (a ^ k * a) = omega arith in e)

pub binomial : (a n : ℕ) → suc a ^ n ≡ total (suc n) (λ k. choose n k * a ^ k)
binomial a zero = rw (pow-zero, total-suc 0 (term a 0), total-zero (term a 0), choose-none, pow-zero)
binomial a (suc n) =
    let steps =
    total_ext (suc n) (λ k. term a (suc n) (suc k)) (λ k. term a n k * a + term a n (suc k)) (λ k h. term-step a n k)
    ∙ total-add (suc n) (λ k. term a n k * a) (λ k. term a n (suc k))
    in
    let last : term a n (suc n) ≡ 0 = rw (choose-above n (suc n) (omega arith), zero-mul) in
    let first : term a (suc n) 0 ≡ term a n 0 = rw (choose-none (suc n), choose-none n) in
    rw (pow-suc, binomial a n)
    (omega (
      arith,
      steps,
      last,
      first,
      total-mul (suc n) a (term a n),
      total_head (suc n) (term a (suc n)),
      total_head (suc n) (term a n),
      total-suc (suc n) (term a n),
    ))

module _ (p : ℕ) (prime : Prime p) where
  pub coefficient_divided : (n k : ℕ) → suc n ≡ p → k < n → choose p (suc k) % p ≡ 0
  coefficient_divided n k e less =
      let some : suc k % p ≡ 0 → ⊥ = λ z. let s = mod-eq_of_lt {n = suc k} {m = p} (omega arith) in omega arith in
      euclid p prime (suc k) (choose p (suc k)) some (rw (← e, absorb n k) (mul-mod_right (suc n) (choose n k)))
