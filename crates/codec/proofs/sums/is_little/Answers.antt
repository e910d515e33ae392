use Prim.Native.Nat.{◌≤◌}
use native.Mathlib.Nat.{mul-le-mul}
use native.Mathlib.Omega.{arith}
use Rattle.frame.proofs.Shapes.{shape-ranges}
use Rattle.codec.proofs.sums.is_little.Goals as goal

pub overflow_mul-result : goal.overflow_mul-result
overflow_mul-result c =
    let most = mul-le-mul (let l : c.loop-count.checks ≤ 524280 = omega arith in l) (shape-ranges c.args.s c.requires).columns-most in
    omega arith

pub overflow_add-result : goal.overflow_add-result
overflow_add-result c = omega (arith, (shape-ranges c.args.s c.requires).rows-most)

pub overflow_mul-result-2 : goal.overflow_mul-result-2
overflow_mul-result-2 c = omega (arith, (shape-ranges c.args.s c.requires).rows-most)
