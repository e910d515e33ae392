use mathlib.Core.Path.{refl}
use native.Mathlib.Omega.{arith}
use Rattle.field.proofs.Multiplication.{multiplied_none, multiplied_more, multiplied_all}
use Rattle.polynomials.proofs.factor.multiply.Goals as goal
use Rattle.polynomials.proofs.factor.multiply.Goals.{After-from-old}

pub loop-x-init : goal.loop-x-init
loop-x-init c = multiplied_none _ _ _ _

pub loop-x-preserved : goal.loop-x-preserved
loop-x-preserved c =
    multiplied_more 257 c.args.a c.args.b c.args.f.now c.loop-x.x-index c.loop-x.below c.loop-x.f c.loop-x.invariant
    c.from-old.result _ (omega arith) c.from-old.ensures (omega arith) refl

pub returns : goal.returns
returns c = multiplied_all _ _ _ _ _ _ _ c.loop-x.invariant (omega arith)
