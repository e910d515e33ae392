use native.Mathlib.Omega.{arith}
use Rattle.lists.proofs.Filling.{filled_none, filled_more, filled-all}
use Rattle.lists.proofs.Zeros.{zeros}
use Rattle.field257.proofs.montgomery.companions.Goals as goal

pub loop-k-init : goal.loop-k-init
loop-k-init c = filled_none _ (zeros 64)

pub loop-k-preserved : goal.loop-k-preserved
loop-k-preserved c =
    filled_more _ (zeros 64) c.loop-k.k _ _ c.loop-k.invariant (let s = c.loop-k.invariant.size in omega arith) c.companion.ensures

pub returns : goal.returns
returns c = filled-all _ (zeros 64) _ _ c.loop-k.invariant (let s = c.loop-k.invariant.size in omega arith)
