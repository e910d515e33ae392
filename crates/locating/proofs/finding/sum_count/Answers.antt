use native.Mathlib.Omega.{arith}
use Rattle.lists.proofs.Summing.{summed-none, summed-more, summed-all}
use Rattle.frame.proofs.Shapes.{shape-ranges}
use Rattle.locating.proofs.finding.sum_count.Goals as goal

pub loop-h-init : goal.loop-h-init
loop-h-init c = summed-none _ _ _

pub offset_bounds-s-h : goal.offset_bounds-s-h
offset_bounds-s-h c = let r = shape-ranges _ c.requires in omega arith

pub bounds-s-h : goal.bounds-s-h
bounds-s-h c = let r = shape-ranges _ c.requires in omega arith

pub overflow_add-all : goal.overflow_add-all
overflow_add-all c = let r = shape-ranges _ c.requires in omega (arith, (r.checks c.loop-h.h c.loop-h-test.true).most)

pub loop-h-preserved : goal.loop-h-preserved
loop-h-preserved c =
    let at = c.loop-h in
    summed-more _ _ _ at.h at.all at.invariant _ c.loop-h-test.true c.from-all.ensures
    (omega (arith, c.from-all.ensures, ((shape-ranges _ c.requires).checks at.h c.loop-h-test.true).most))

pub returns : goal.returns
returns c = summed-all _ _ _ _ _ c.loop-h.invariant c.loop-h-test.false
