-- A remainder by a reciprocal that is rounded up (Lemire). m·p is 2^48 and an excess below p, so that m·v is 2^48 times the quotient of v by p, and a fraction;
-- p times the fraction is 2^48 times the remainder of v, and excess·v, which is below 2^48.
use mathlib.Core.Path.{◌≡◌, ap, ◌∙◌}
use Prim.Native.Nat.{ℕ, ◌+◌, ◌-◌, ◌*◌, ◌/◌, ◌%◌, ◌≤◌, ◌<◌}
use native.Mathlib.Nat.{
  add-mul-mod_self_right,
  div-add-mod',
  div-lt_iff_lt-mul,
  div-mul-le_self,
  lt-div-mul-add,
  lt_of_mul-lt-mul_right,
  mod-eq_of_lt,
  mod-lt,
  mul-le-mul,
  mul-le-mul_left,
}
use native.Mathlib.Omega.{arith}
use Rattle.field.specs.Dividends.{Dividend}
use Rattle.field.proofs.Fits.{product-below}

pub product_dividend : (a b : ℕ) {p m : ℕ} → p ≤ 65521 → a < p → b < p → m ≡ 281474976710655 / p + 1 → Dividend (a * b) p m
product_dividend a b small ha hb eq = record { positive = omega (arith, ha); modulus = small; product = product-below a b _ ha hb; reciprocal = eq }

module _ {v p m : ℕ} (dividend : Dividend v p m) where
  abbrev excess : ℕ
  excess = m * p - 281474976710656

  abbrev quotient : ℕ
  quotient = v / p

  abbrev rest : ℕ
  rest = v % p

  abbrev fraction : ℕ
  fraction = excess * quotient + m * rest

  whole : quotient * p + rest ≡ v
  whole = div-add-mod' v p

  quotient-below : quotient < p
  quotient-below = (div-lt_iff_lt-mul {k = p} {x = v} {y = p} dividend.positive).1 dividend.product

  rest_below : rest < p
  rest_below = mod-lt v dividend.positive

  reaches : 281474976710656 ≤ m * p
  reaches = rw dividend.reciprocal (omega (arith, lt-div-mul-add {a = 281474976710655} {b = p} dividend.positive))

  rounded_up : excess + 281474976710656 ≡ m * p
  rounded_up = omega (arith, reaches)

  excess-below : excess < p
  excess-below =
      omega (arith, rounded_up, ap (λ (x : ℕ). x * p) dividend.reciprocal, div-mul-le_self 281474976710655 p, dividend.positive)

  -- p³ is below 2^48
  cube_small : p * p * p ≤ 281281747415761
  cube_small = mul-le-mul (mul-le-mul dividend.modulus dividend.modulus) dividend.modulus

  square_below : p * p < m
  square_below = lt_of_mul-lt-mul_right p (let e : p * p * p < m * p = omega (arith, cube_small, reaches) in e)

  split : m * v ≡ fraction + quotient * 281474976710656
  split = omega (arith, ap (λ (x : ℕ). m * x) whole, ap (λ (x : ℕ). x * quotient) rounded_up)

  fraction-below : fraction < 281474976710656
  fraction-below =
      let few : quotient + 1 ≤ p = omega (arith, quotient-below) in
      let slight : excess * (quotient + 1) ≤ p * p = mul-le-mul (let e : excess ≤ p = omega (arith, excess-below) in e) few in
      let short : m * (rest + 1) ≤ m * p = mul-le-mul_left m (let e : rest + 1 ≤ p = omega (arith, rest_below) in e) in
      omega (arith, rounded_up, square_below)

  fraction-is : (m * v) % 281474976710656 ≡ fraction
  fraction-is =
      ap (λ (x : ℕ). x % 281474976710656) split ∙ add-mul-mod_self_right fraction quotient 281474976710656 ∙ mod-eq_of_lt fraction-below

  scaled : fraction * p ≡ excess * v + rest * 281474976710656
  scaled = omega (arith, ap (λ (x : ℕ). excess * x) whole, ap (λ (x : ℕ). x * rest) rounded_up)

  excess_small : excess * v < 281474976710656
  excess_small =
      let within : v ≤ p * p = omega (arith, dividend.product) in
      omega (arith, cube_small, mul-le-mul (let e : excess ≤ p = omega (arith, excess-below) in e) within)

  pub reciprocal-fits : m * v < 18446744073709551616
  reciprocal-fits = omega (arith, split, fraction-below, quotient-below, dividend.modulus)

  pub remainder_is : (m * v) % 281474976710656 * p / 281474976710656 ≡ v % p
  remainder_is = rw fraction-is (omega (arith, scaled, excess_small))
