use mathlib.Core.Logic.{inl, inr}
use native.Mathlib.Omega.{arith}
use Rattle.elimination.proofs.Tables.{cleared-none, cleared_more, cleared-all}
use Rattle.elimination.proofs.clear.Goals as goal

pub loop-k-init : goal.loop-k-init
loop-k-init c = (omega arith, inr (omega arith), cleared-none _)

pub loop-k-preserved : goal.loop-k-preserved
loop-k-preserved c = (
  omega arith,
  inl (omega arith),
  cleared_more _ _ c.loop-k.invariant.2 c.loop-k.invariant.0 c.place.ensures c.put.ensures,
)

pub returns : goal.returns
returns c = cleared-all _ _ c.loop-k.invariant.2 (omega arith) c.loop-k.invariant.1
