use Rattle.std.proofs.Common.{arith}
use Rattle.plain.proofs.Powers.{power-none, power-more}
use Rattle.plain.proofs.Writing.{wrote_none, wrote-put, wrote-all}
use Rattle.brute.proofs.locator.pose_root.Goals as goal

pub loop-k-init : goal.loop-k-init
loop-k-init c = (omega arith, power-none c.args.y, wrote_none _ 0 _)

pub loop-k-preserved : goal.loop-k-preserved
loop-k-preserved c = (
  omega arith,
  power-more _ _ c.loop-k.invariant.1 c.times-v.ensures,
  wrote-put 0 c.loop-k.k _ c.loop-k.invariant.2 (omega arith) c.put.ensures c.loop-k.invariant.1,
)

pub returns : goal.returns
returns c = wrote-all 0 _ _ c.loop-k.invariant.2 c.loop-k.invariant.0 (omega arith)
