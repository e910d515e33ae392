use native.Mathlib.Omega.{arith}
use Rattle.lists.proofs.Summing.{summed-none, summed-more}
use Rattle.discrepancy.proofs.Products.{narrow-all}
use Rattle.discrepancy.proofs.sums.narrow_sum.Goals as goal

pub loop-i-init : goal.loop-i-init
loop-i-init c = summed-none _ _ _

pub loop-i-preserved : goal.loop-i-preserved
loop-i-preserved c =
    let small = c.requires.products c.loop-i.i (omega (arith, c.padded-i-end.ensures.few)) in
    summed-more _ _ _ _ _ c.loop-i.invariant _ (omega arith) c.product-sum.ensures (rw c.product-sum.ensures small)

pub returns : goal.returns
returns c =
    narrow-all c.requires (omega (arith, c.padded-i-end.ensures.enough)) (omega (arith, c.padded-i-end.ensures.few)) c.loop-i.invariant (omega arith)
