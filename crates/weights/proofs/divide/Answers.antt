use native.Mathlib.Omega.{arith}
use Rattle.lists.proofs.Filling.{filled-all}
use Rattle.weights.proofs.Division.{divided_none, divided_more}
use Rattle.weights.proofs.divide.Goals as goal

pub loop-k-init : goal.loop-k-init
loop-k-init c = divided_none _ _ _

pub loop-k-preserved : goal.loop-k-preserved
loop-k-preserved c = divided_more _ _ _ _ _ _ c.loop-k.invariant c.from.result (omega arith) c.from.ensures

pub returns : goal.returns
returns c = filled-all _ _ _ _ c.loop-k.invariant.filled (omega arith)
