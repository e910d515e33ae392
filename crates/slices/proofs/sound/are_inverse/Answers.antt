-- `are_inverse` answers whether a product is 1 modulo 257. It fits, as one factor is below 257 and the other below 2^16.
use Prim.Native.Nat.{◌≤◌}
use native.Mathlib.Nat.{mul-le-mul}
use native.Mathlib.Omega.{arith}
use Rattle.slices.proofs.sound.are_inverse.Goals as goal

pub overflow_mul-result : goal.overflow_mul-result
overflow_mul-result c =
    let less : c.from.result ≤ 257 = omega (arith, c.requires, c.from.ensures) in
    let fits : c.from-2.result ≤ 65536 = omega (arith, c.from-2.ensures, c.ranges.disc.fits) in
    record { fits = omega (arith, mul-le-mul less fits) }
