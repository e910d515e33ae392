use Rattle.std.proofs.Common.{◌+◌, arith}
use Rattle.plain.proofs.Writing.{wrote_none, wrote-put}
use Rattle.brute.proofs.Completing.{weight_posed, all_posed}
use Rattle.brute.proofs.erasures.pose_sum.Goals as goal

pub loop-k-init : goal.loop-k-init
loop-k-init c = wrote_none _ 1 _

pub loop-k-preserved : goal.loop-k-preserved
loop-k-preserved c =
    wrote-put 1 (c.loop-k.k + 1) _ c.loop-k.invariant (omega arith) c.put-in-loop-k.ensures
    (weight_posed _ _ _ c.loop-k.k c.from.ensures c.power.ensures)

pub returns : goal.returns
returns c = all_posed _ _ _ c.loop-k.k _ _ _ c.put.ensures c.loop-k.invariant (omega arith)
