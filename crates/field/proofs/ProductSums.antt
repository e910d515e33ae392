-- Sums of up to 129 products of residues: they are that many squares of p at most, and so few times p that they can be reduced; where p is small, so can their
-- products with a residue.
use Prim.Native.Nat.{ℕ, ◌*◌, ◌≤◌, ◌<◌}
use native.Mathlib.Nat.{mul-le-mul, mul-le-mul_right}
use native.Mathlib.Omega.{arith}

pub sum_below : (p : ℕ) {n s : ℕ} → n ≤ 129 → s ≤ n * (p * p) → s ≤ 129 * (p * p)
sum_below p few hs = omega (arith, mul-le-mul_right (p * p) few)

pub sum-quotient : (p : ℕ) {s : ℕ} → p ≤ 65521 → s ≤ 129 * (p * p) → s ≤ 16777215 * p
sum-quotient p small hs = omega (arith, mul-le-mul_right p small)

module _ (p s x : ℕ) (small : p ≤ 257) (sum : s ≤ 129 * (p * p)) (less : x < p) where
  pub scaled-quotient : s * x ≤ 16777215 * p
  scaled-quotient =
      let few : s ≤ 8520321 = omega (arith, mul-le-mul small small) in
      omega (arith, mul-le-mul few (let e : x ≤ p = omega arith in e))

  pub scaled_fits : s * x < 4294967296
  scaled_fits =
      let few : s ≤ 8520321 = omega (arith, mul-le-mul small small) in
      omega (arith, mul-le-mul few (let e : x ≤ 256 = omega arith in e))
