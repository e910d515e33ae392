-- Remainders without a division. The quotient by p that a reciprocal of p in parts of a power of two gives (Barrett) is right or one too small, so at most
-- one p is left to take off.
use mathlib.Core.Path.{◌≡◌, sym, ap, ◌∙◌}
use Prim.Native.Nat.{ℕ, ◌+◌, ◌-◌, ◌*◌, ◌/◌, ◌%◌, ◌≤◌, ◌<◌}
use native.Mathlib.Nat.{
  add-mul-mod_self_right,
  div-add-mod',
  div-mul-le_self,
  le_of_mul-le-mul_right,
  lt-div-mul-add,
  lt_of_mul-lt-mul_right,
  mod-eq_of_lt,
  mod-lt,
  mul-le-mul,
  mul-le-mul_left,
  mul-le-mul_right,
}
use native.Mathlib.Omega.{arith}

-- a number below p that differs from v by a multiple of p is the remainder
remainder_is : (v k p r : ℕ) → r + k * p ≡ v → r < p → r ≡ v % p
remainder_is v k p r e less = sym (ap (λ (x : ℕ). x % p) (sym e) ∙ add-mul-mod_self_right r k p ∙ mod-eq_of_lt less)

-- a number whose quotient by p is below 2^24, times the wide reciprocal of p
pub wide-reciprocal-fits : (p : ℕ) {v m : ℕ} → v ≤ 16777215 * p → m ≡ 1099511627776 / p → m * v < 18446744073709551616
wide-reciprocal-fits p {v} {m} hv eq =
    let part : m * p ≤ 1099511627776 = rw eq (div-mul-le_self 1099511627776 p) in
    let whole : m * v ≤ m * (16777215 * p) = mul-le-mul_left m hv in
    omega arith

pub wide_below : {p v : ℕ} → p ≤ 65521 → v ≤ 16777215 * p → v ≤ 1099511627776
wide_below small hv = omega arith

-- ---- m is a reciprocal of p in parts of b: m·v / b is the quotient of v by p, or one less

module _ {b p v m : ℕ} (base : 0 < b) (pos : 0 < p) (within : v ≤ b) (reciprocal : m ≡ b / p) where
  abbrev t : ℕ
  t = m * v / b

  pub not-above : t * p ≤ v
  not-above =
      let low : t * b ≤ m * v = div-mul-le_self (m * v) b in
      let part : m * p ≤ b = rw reciprocal (div-mul-le_self b p) in
      le_of_mul-le-mul_right (let scaled : t * p * b ≤ v * b = omega (arith, mul-le-mul_right p low, mul-le-mul_right v part) in scaled) base

  pub one-short : v < t * p + 2 * p
  one-short =
      let rest : ℕ = b % p in
      let high : m * v < t * b + b = lt-div-mul-add {a = m * v} {b = b} base in
      let part : m * p + rest ≡ b = rw reciprocal (div-add-mod' b p) in
      let small : rest * v ≤ p * b = mul-le-mul (let e : rest ≤ p = omega (arith, mod-lt b pos) in e) within in
      let scaled : v * b < (t * p + 2 * p) * b = omega (arith, mul-le-mul_right p high, ap (λ (x : ℕ). x * v) part) in
      lt_of_mul-lt-mul_right b scaled

  pub right : v - t * p < p → v - t * p ≡ v % p
  right below = remainder_is v t p (v - t * p) (omega (arith, not-above)) below

  pub corrected : p ≤ v - t * p → (v - t * p - p ≡ v % p) × (v - t * p - p < p)
  corrected above =
      let below : v - t * p - p < p = omega (arith, one-short) in
      (remainder_is v (t + 1) p (v - t * p - p) (omega (arith, not-above)) below, below)
