use mathlib.Core.Path.{refl}
use native.Mathlib.Omega.{arith}
use Rattle.plain_frames.proofs.CheckSums.{summed-none, summed-more, summed-all}
use Rattle.plain_frames.proofs.frames.check_sums.Goals as goal

pub loop-h-init : goal.loop-h-init
loop-h-init c = summed-none _ _ _ _ _

pub loop-h-preserved : goal.loop-h-preserved
loop-h-preserved c =
    summed-more
    _
    _
    _
    _
    _
    _
    _
    _
    _
    _
    _
    c.loop-h.invariant
    c.row_sums.ensures
    c.start-at.ensures
    refl
    c.row.ensures
    (omega arith)

pub returns : goal.returns
returns c = summed-all _ _ _ _ _ _ _ _ c.loop-h.invariant (omega arith) (omega arith)
