-- Powers modulo 257, one factor at a time, and sums weighed by them.
use Rattle.std.proofs.Common.{◌≡◌, ℕ, zero, suc, ◌+◌, ◌*◌, ◌%◌, ◌^◌, sym, ap, ◌∙◌, ap₂, pow-suc, mul-zero, add-one, arith, pow-add}
use native.Mathlib.Nat.{pow-zero, zero-mod}
use Rattle.plain.proofs.Remainders.{rem-positive, rem-mul, rem-mul-rem, rem-add-mul, rem-add}
use Rattle.plain.proofs.Sums.{sum-zero, sum_more}
use Rattle.plain.specs.Plain.{rem, sum}

pub mod-is-rem : (x : ℕ) → x % 257 ≡ rem x 257
mod-is-rem x = rem-positive x 257 (omega arith)

pub power-none : (x : ℕ) → 1 ≡ x ^ 0 % 257
power-none x = ap (λ (y : ℕ). y % 257) (sym (pow-zero x))

pub power-more : (x n : ℕ) {r s : ℕ} → r ≡ x ^ n % 257 → s ≡ rem (r * x) 257 → s ≡ x ^ (n + 1) % 257
power-more x n {r} {s} h e =
    e ∙ ap (λ (y : ℕ). rem (y * x) 257) (h ∙ mod-is-rem (x ^ n)) ∙ rem-mul (x ^ n) x 257 ∙ sym (mod-is-rem (x ^ n * x))
    ∙ ap (λ (y : ℕ). y % 257) (sym (pow-suc x n) ∙ ap (λ (m : ℕ). x ^ m) (sym (add-one n)))

-- the power at i + 1 of a power j of x
pub weight-more : (x j i : ℕ) {step w v : ℕ} → step ≡ x ^ j % 257 → w ≡ x ^ (j * i) % 257 → v ≡ rem (w * step) 257 → v ≡ x ^ (j * (i + 1)) % 257
weight-more x j i {step} {w} {v} es ew ev =
    ev ∙ ap₂ (λ (a b : ℕ). rem (a * b) 257) (ew ∙ mod-is-rem (x ^ (j * i))) (es ∙ mod-is-rem (x ^ j))
    ∙ rem-mul (x ^ (j * i)) (rem (x ^ j) 257) 257 ∙ rem-mul-rem (x ^ (j * i)) (x ^ j) 257
    ∙ sym (mod-is-rem (x ^ (j * i) * x ^ j))
    ∙ ap (λ (y : ℕ). y % 257) (sym (pow-add x (j * i) j) ∙ ap (λ (m : ℕ). x ^ m) (let e : j * i + j ≡ j * (i + 1) = omega arith in e))

-- a sum of values times weights
pub weighed-more : (f g : ℕ → ℕ) (i : ℕ) {s t v w : ℕ} → s ≡ sum i (λ k. f k * g k) % 257 → v ≡ f i → w ≡ g i % 257 → t ≡ rem (s + v * w) 257 →
    t ≡ sum (i + 1) (λ k. f k * g k) % 257
weighed-more f g i {s} {t} {v} {w} es ev ew et =
    et ∙ ap₂ (λ (a b : ℕ). rem (a + b) 257) (es ∙ mod-is-rem (sum i (λ k. f k * g k))) (ap₂ (λ (a b : ℕ). a * b) ev (ew ∙ mod-is-rem (g i)))
    ∙ rem-add (sum i (λ k. f k * g k)) (f i * rem (g i) 257) 257 ∙ rem-add-mul (sum i (λ k. f k * g k)) (f i) (g i) 257
    ∙ sym (mod-is-rem (sum i (λ k. f k * g k) + f i * g i)) ∙ ap (λ (x : ℕ). x % 257) (sym (sum_more i (λ k. f k * g k)))

pub weighed-none : (h : ℕ → ℕ) → 0 ≡ sum 0 h % 257
weighed-none h = sym (zero-mod 257) ∙ ap (λ (x : ℕ). x % 257) (sym (sum-zero h))

pub weight-none : (x j : ℕ) → 1 ≡ x ^ (j * 0) % 257
weight-none x j = power-none x ∙ ap (λ (m : ℕ). x ^ m % 257) (sym (mul-zero j))

-- the powers of y, where y is power j of x
pub power_of_power : (x j i : ℕ) {y : ℕ} → y ≡ x ^ j % 257 → y ^ i % 257 ≡ x ^ (j * i) % 257
power_of_power x j zero {y} e = ap (λ (v : ℕ). v % 257) (pow-zero y) ∙ weight-none x j
power_of_power x j (suc i) {y} e =
    weight-more x j i e (power_of_power x j i e)
    (ap (λ (v : ℕ). v % 257) (pow-suc y i) ∙ mod-is-rem (y ^ i * y) ∙ sym (rem-mul (y ^ i) y 257) ∙ ap (λ (v : ℕ). rem (v * y) 257) (sym (mod-is-rem (y ^ i))))
    ∙ ap (λ (m : ℕ). x ^ (j * m) % 257) (add-one i)
