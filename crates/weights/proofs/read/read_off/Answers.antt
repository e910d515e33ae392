use Prim.Native.Nat.{◌+◌}
use Rattle.weights.proofs.ReadSum.{Read, read_more, read_all}
use Rattle.lists.proofs.Summing.{summed-none}
use borrow.Author.Rules.{rules}
use native.Mathlib.Omega.{arith}
use Rattle.weights.proofs.read.read_off.Goals as goal
use Rattle.weights.proofs.read.read_off.Goals.{After-product-total}

pub loop-k-init : goal.loop-k-init
loop-k-init c = summed-none _ _ _

-- one coefficient more
grown : (c : After-product-total) → Read c.args.coefficients.now c.args.sums.now (c.loop-k.k + 1) (c.loop-k.total + c.product-total.result)
grown c = read_more _ _ c.loop-k.k c.loop-k.total c.loop-k.invariant _ c.loop-k-test.true c.product-total.ensures (search rules) (c.requires.sums-small _)

pub loop-k-preserved : goal.loop-k-preserved
loop-k-preserved c = grown c

pub returns : goal.returns
returns c = read_all _ _ _ _ c.loop-k.invariant (omega arith)
