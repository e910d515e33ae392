use mathlib.Core.Path.{sym, ◌∙◌}
use native.Mathlib.Omega.{arith}
use Rattle.elimination.proofs.Crossing.{cancelled_none, cancelled_zero, cancelled_more, cancelled_all}
use Rattle.elimination.proofs.cancel.Goals as goal

pub returns-then-x-eq0 : goal.returns-then-x-eq0
returns-then-x-eq0 c = cancelled_zero _ _ _ _ (sym c.get-x.ensures ∙ c.if-x-eq0.true)

pub loop-j-init : goal.loop-j-init
loop-j-init c = (omega arith, cancelled_none _ _ _)

pub loop-j-preserved : goal.loop-j-preserved
loop-j-preserved c = (
  omega arith,
  cancelled_more _ _ _ _ _ _ _ c.loop-j.invariant.1 c.get-x.ensures c.if-x-eq0.false c.cancel_value.ensures,
)

pub returns : goal.returns
returns c = cancelled_all _ _ _ _ _ _ c.loop-j.invariant.1 c.loop-j.invariant.0 (omega arith)
