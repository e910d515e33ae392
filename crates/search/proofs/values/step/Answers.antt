use Rattle.lists.proofs.Filling.{filled_none}
use Rattle.search.proofs.Valuing.{factor, stepping_more, stepping_all}
use Rattle.search.proofs.values.step.Goals as goal

pub loop-i-init : goal.loop-i-init
loop-i-init c = filled_none _ _

pub product-requires : goal.product-requires
product-requires c = factor _ _ _ _ c.requires c.loop-i.i c.loop-i-test.true

pub loop-i-preserved : goal.loop-i-preserved
loop-i-preserved c =
    let at = c.loop-i in
    stepping_more _ _ _ _ c.requires at.i _ at.invariant c.loop-i-test.true c.product.result c.product.ensures.equals

pub returns : goal.returns
returns c = let at = c.loop-i in stepping_all _ _ _ _ c.requires at.i _ at.invariant c.loop-i-test.false
