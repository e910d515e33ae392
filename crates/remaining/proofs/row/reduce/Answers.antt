use mathlib.Core.Path.{refl}
use native.Mathlib.Omega.{arith}
use Rattle.lists.proofs.Filling.{filled_none, filled_more, filled-all}
use Rattle.remaining.proofs.row.reduce.Goals as goal

pub loop-j-init : goal.loop-j-init
loop-j-init c = filled_none _ _

pub loop-j-preserved : goal.loop-j-preserved
loop-j-preserved c = filled_more _ _ _ _ _ c.loop-j.invariant (let s = c.loop-j.invariant.size in omega arith) refl

pub returns : goal.returns
returns c = filled-all _ _ _ _ c.loop-j.invariant (let s = c.loop-j.invariant.size in omega arith)
