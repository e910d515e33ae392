use native.Mathlib.Omega.{arith}
use Rattle.elimination.proofs.Storing.{stored-none, stored_more, stored-all}
use Rattle.elimination.proofs.keep.Goals as goal

pub loop-j-init : goal.loop-j-init
loop-j-init c = (omega arith, stored-none _ _)

pub loop-j-preserved : goal.loop-j-preserved
loop-j-preserved c = (
  omega arith,
  stored_more _ _ _ _ _ _ _ c.loop-j.invariant.1 c.place.ensures c.put.ensures c.get-v.ensures,
)

pub returns : goal.returns
returns c = stored-all _ _ _ _ _ c.loop-j.invariant.1 c.loop-j.invariant.0 (omega arith)
