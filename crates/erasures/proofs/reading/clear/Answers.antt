use Prim.Native.Nat.{◌<◌}
use native.Mathlib.Omega.{arith}
use Rattle.columns.proofs.Walk.{walk-rises}
use Rattle.frame.proofs.Clearing.{clearing_none, clearing_more, clearing_all}
use Rattle.erasures.proofs.reading.clear.Goals as goal
use Rattle.erasures.proofs.reading.clear.Goals.{In-loop-i}

low : (c : In-loop-i) → c.loop-i.i < 256
low c =
    let most = c.requires in
    let size = c.loop-i.invariant.size in
    let inside = c.loop-i-test.true in
    omega arith

pub loop-i-init : goal.loop-i-init
loop-i-init c = clearing_none _ _ _ c.next-i.ensures

pub loop-i-smaller : goal.loop-i-smaller
loop-i-smaller c =
    let r = walk-rises _ _ _ c.loop-i.invariant.walk _ (low (goal.at.loop-i-smaller c).In-loop-i) c.next-i-in-loop-i.ensures in
    let l = low (goal.at.loop-i-smaller c).In-loop-i in
    omega arith

pub loop-i-preserved : goal.loop-i-preserved
loop-i-preserved c =
    clearing_more _ _ c.loop-i.i _ c.loop-i.row c.loop-i.invariant (low (goal.at.loop-i-preserved c).In-loop-i) c.loop-i-test.true c.next-i-in-loop-i.ensures

pub shape_of-row : goal.shape_of-row
shape_of-row c = c.loop-i.invariant.size

pub returns : goal.returns
returns c = clearing_all _ _ _ _ c.loop-i.invariant c.loop-i-test.false
