use Rattle.std.proofs.Common.{refl, arith}
use Rattle.brute.proofs.OneSequence.{so_far_none, so_far_short, so_far_all, so_far_more, so_far_fails}
use Rattle.brute.proofs.shortest.add_sequence.Goals as goal

pub returns-then-s-l : goal.returns-then-s-l
returns-then-s-l c = so_far_short _ _ _ _ c.if-s-l.true

pub loop-j-init : goal.loop-j-init
loop-j-init c = (refl, omega arith, omega arith, so_far_none _ _ _ _)

pub returns-then-contradicts : goal.returns-then-contradicts
returns-then-contradicts c =
    let inv = c.loop-j.invariant in
    so_far_fails _ _ _ _ c.loop-j.j _ _ _ inv.3 inv.1 c.pose.ensures _ c.add.ensures
    (c.contradicts.ensures.yes c.if-contradicts.true) (omega arith)

pub loop-j-preserved : goal.loop-j-preserved
loop-j-preserved c =
    let inv = c.loop-j.invariant in (
      refl,
      omega arith,
      omega arith,
      so_far_more _ _ _ _ c.loop-j.j _ _ _ inv.3 inv.1 c.pose.ensures _ c.add.ensures
          (c.contradicts.ensures.no c.if-contradicts.false),
    )

pub returns : goal.returns
returns c =
    let inv = c.loop-j.invariant in
    so_far_all _ _ _ _ c.loop-j.j _ inv.3 (omega arith) (omega arith)
