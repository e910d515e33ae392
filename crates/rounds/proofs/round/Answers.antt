use mathlib.Core.Path.{sym, subst}
use native.Mathlib.Omega.{arith}
use Rattle.rounds.specs.Rounds.{Reached}
use Rattle.rounds.proofs.Running.{during, steppable, stepped, round-begins, round-ends}
use Rattle.rounds.proofs.round.Goals as goal

pub loop-h-init : goal.loop-h-init
loop-h-init c = let pre = c.requires in round-begins pre.posed.running _ pre.made

pub step-requires-clause-steppable : goal.step-requires-clause-steppable
step-requires-clause-steppable c =
    let pre = c.requires in
    steppable pre.posed.running pre.n_lt_longest c.loop-h-test.true c.loop-h.invariant

pub loop-h-preserved : goal.loop-h-preserved
loop-h-preserved c =
    let pre = c.requires in
    let r = pre.posed.running in
    subst (Reached _ _ (during r _ _)) (sym c.step.ensures) (stepped r pre.n_lt_longest c.loop-h-test.true c.loop-h.invariant)

pub returns : goal.returns
returns c = round-ends c.requires.posed.running _ _ (omega arith) c.loop-h.invariant
