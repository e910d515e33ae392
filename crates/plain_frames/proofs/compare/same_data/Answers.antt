use native.Mathlib.Omega.{arith}
use Rattle.plain.proofs.Tests.{same_lists, each_none, each_more, each-fails, each_holds}
use Rattle.plain_frames.proofs.compare.same_data.Goals as goal

pub loop-h-init : goal.loop-h-init
loop-h-init c = each_none _ _

pub returns-then-not-same : goal.returns-then-not-same
returns-then-not-same c =
    let told = same_lists _ _ _ _ _ _ _ c.from.ensures c.row.ensures c.row-in-loop-h.ensures c.same.ensures in
    each-fails _ _ _ c.loop-h.h (omega arith) (omega arith) (told.no c.if-not-same.true)

pub loop-h-preserved : goal.loop-h-preserved
loop-h-preserved c =
    let told = same_lists _ _ _ _ _ _ _ c.from.ensures c.row.ensures c.row-in-loop-h.ensures c.same.ensures in
    each_more _ _ _ c.loop-h.invariant (told.yes c.if-not-same.false)

pub returns : goal.returns
returns c = each_holds _ _ _ _ (omega arith) c.loop-h.invariant
