use native.Mathlib.Omega.{arith}
use Rattle.lists.proofs.Filling.{filled_none, filled_more}
use Rattle.factors.proofs.WeightsTable.{length-factors, weights-all}
use Rattle.factors.proofs.table.weights.Goals as goal

pub loop-i-init : goal.loop-i-init
loop-i-init c = rw c.factors-t.ensures (filled_none _ _)

pub loop-i-preserved : goal.loop-i-preserved
loop-i-preserved c = filled_more _ _ c.loop-i.i _ c.loop-i.t c.loop-i.invariant (omega (arith, length-factors)) (c.entry.ensures.power c.powers-powers.ensures)

pub returns : goal.returns
returns c = weights-all _ _ _ c.loop-i.invariant (omega arith)
