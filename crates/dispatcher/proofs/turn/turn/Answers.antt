-- `dispatcher::turn::turn` meets its contract.
use mathlib.Core.Path.{sym}
use Rattle.kept.specs.Kept.{heads, searches, Kept, kept}
use Rattle.turns.specs.Dispatcher.{served}
use Rattle.dispatch.proofs.Telling.{serving, idle}
use Rattle.dispatcher.proofs.turn.turn.Goals as goal
use Rattle.dispatcher.proofs.turn.turn.Goals.{Start}

-- what is kept
abbrev lent : Start → Kept
lent c =
    let a = c.args in
    kept (heads a.states.now a.extents.now a.checks.now a.marks.now) a.sums.now a.taps.now a.held.now
    (searches a.counts.now a.lengths.now a.symbols.now a.places.now a.sizes.now a.discs.now a.quotients.now
    a.register.now a.saved.now) a.last.now

pub returns-in_default : goal.returns-in_default
unfolding served
returns-in_default c =
    let a = c.args in
    idle (lent (goal.at.returns-in_default c).Start) (sym (c.in_default.ensures.found a.extents.now a.checks.now a.marks.now)) (c.no_job.ensures _)

pub returns : goal.returns
unfolding served
returns c =
    let a = c.args in
    serving (lent (goal.at.returns c).Start) _ (sym (c.in-Some.ensures.found a.extents.now a.checks.now a.marks.now)) (c.make_step-said.ensures a.last.now)
