use native.Mathlib.Omega.{arith}
use lib.ListN.{length}
use Rattle.frame.specs.DeclaredCells.{as_read}
use Rattle.frame.proofs.RowPlace.{RowPlace, row-place}
use Rattle.frame.proofs.RowsChanged.{changed-none, changed-all, length_part}
use Rattle.frame.specs.Completion.{cleared}
use Rattle.frame.proofs.ReadFrames.{length-cleared}
use Rattle.frame.proofs.RowsAtSets.{more-at_sets}
use Rattle.erasures.proofs.reading.clear_rows.Goals as goal
use Rattle.erasures.proofs.reading.clear_rows.Goals.{In-loop-h}

place : (c : In-loop-h) →
    let args = c.args in
    RowPlace args.s (length args.frame.now) c.loop-h.h
place c =
    row-place c.args.s (length c.args.frame.now) c.loop-h.h c.requires.shape c.requires.whole c.loop-h-test.true

pub loop-h-init : goal.loop-h-init
loop-h-init c = changed-none _ _ _ _

pub cells_of-requires : goal.cells_of-requires
cells_of-requires c = let p = place (goal.at.cells_of-requires c).In-loop-h in omega arith

pub clear-requires : goal.clear-requires
clear-requires c =
    let p = place (goal.at.clear-requires c).In-loop-h in
    omega (arith, length_part _ _ _ _ _ _ c.loop-h.invariant p.inside)

pub loop-h-preserved : goal.loop-h-preserved
loop-h-preserved c =
    more-at_sets cleared length-cleared _ _ _ _ c.loop-h.h _ c.loop-h.invariant (place (goal.at.loop-h-preserved c).In-loop-h).inside _ _ c.loop-h-test.true
    c.cells_of.ensures
    c.clear.ensures

pub returns : goal.returns
unfolding as_read
returns c = changed-all _ _ _ _ _ _ c.loop-h.invariant c.loop-h-test.false
