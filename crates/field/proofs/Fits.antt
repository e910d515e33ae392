-- What fits 32 bits: the product of two residues modulo p up to 65521, which is below p², and the squares that trial division compares.
use Prim.Native.Nat.{ℕ, ◌+◌, ◌*◌, ◌^◌, ◌≤◌, ◌<◌}
use native.Mathlib.Nat.{mul-le-mul}
use native.Mathlib.Decide.{dec_lt}
use native.Mathlib.Omega.{arith}

pub product-fits : (a b p : ℕ) → p ≤ 65521 → a < p → b < p → a * b < 2 ^ 32
product-fits a b p le ha hb =
    let a_small : a ≤ 65520 = omega arith in
    let b-small : b ≤ 65520 = omega arith in
    omega (arith, mul-le-mul a_small b-small)

pub product-below : (a b p : ℕ) → a < p → b < p → a * b < p * p
product-below a b p ha hb =
    omega (arith, mul-le-mul (let e : a + 1 ≤ p = omega arith in e) (let e : b + 1 ≤ p = omega arith in e))

pub root-small : (d : ℕ) → d * d < 65536 → d < 256
root-small d root = pick (dec_lt d 256)
  where
    pick : Dec (d < 256) → d < 256
    pick (yes small) = small
    pick (no large) =
        let s : 256 ≤ d = omega arith in
        absurd (let z : ⊥ = omega (arith, mul-le-mul s s) in z)
