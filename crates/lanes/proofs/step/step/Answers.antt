use native.Mathlib.Omega.{arith}
use Rattle.lanes.proofs.Stepping.{room, stepping_none, stepping_more, stepping_all}
use Rattle.lanes.proofs.step.step.Goals as goal

pub loop-i-init : goal.loop-i-init
loop-i-init c = stepping_none _ _ _ _ _ _ _ _

pub overflow_add-t : goal.overflow_add-t
overflow_add-t c =
    let at = c.loop-i in
    let w = c.product-in-loop-i-2.ensures in
    omega (
      arith,
      room _ _ _ _ _ _ _ _ c.requires at.i _ _ _ at.invariant c.loop-i-test.true c.product.result
          c.product.ensures.bounded,
    )

pub loop-i-preserved : goal.loop-i-preserved
loop-i-preserved c =
    let at = c.loop-i in
    stepping_more _ _ _ _ _ _ _ _ c.requires at.i _ _ _ at.invariant c.loop-i-test.true c.product.result c.product-in-loop-i.result
    c.product-in-loop-i-2.result c.product.ensures.equals c.product.ensures.bounded c.product-in-loop-i.ensures.equals
    c.product-in-loop-i-2.ensures

pub returns : goal.returns
returns c = stepping_all _ _ _ _ _ _ _ _ c.requires.whole _ _ _ _ c.loop-i.invariant c.loop-i-test.false
