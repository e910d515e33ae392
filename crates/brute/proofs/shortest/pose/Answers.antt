use Rattle.std.proofs.Common.{arith}
use Rattle.plain.proofs.Writing.{wrote_none, wrote-put, wrote-all}
use Rattle.brute.proofs.shortest.pose.Goals as goal

pub loop-k-init : goal.loop-k-init
loop-k-init c = (omega arith, wrote_none _ 0 _)

pub loop-k-preserved : goal.loop-k-preserved
loop-k-preserved c =
    (omega arith, wrote-put 0 c.loop-k.k _ c.loop-k.invariant.1 (omega arith) c.put.ensures c.before-in-loop-k.ensures)

pub returns : goal.returns
returns c = wrote-all 0 _ _ c.loop-k.invariant.1 c.loop-k.invariant.0 (omega arith)
