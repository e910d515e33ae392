use mathlib.Core.Path.{refl}
use Rattle.lanes.proofs.Running.{running_none, running_more}
use Rattle.lanes.proofs.run.run.Goals as goal

pub loop-k-init : goal.loop-k-init
loop-k-init c = running_none _ _ _ _ _ _ _ _ refl refl refl

pub loop-k-preserved : goal.loop-k-preserved
loop-k-preserved c =
    let at = c.loop-k in
    running_more _ _ _ _ _ c.requires at.k _ _ _ at.invariant c.loop-k-test.true _ _ _ c.step.ensures
