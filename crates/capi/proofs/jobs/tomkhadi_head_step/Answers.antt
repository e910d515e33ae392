-- `capi::jobs::tomkhadi_head_step` meets its contract, by those of the functions that it calls.
use mathlib.Core.Path.{ap, ap₂, ◌∙◌}
use mathlib.Core.List.{[]}
use Rattle.dispatch.proofs.GoingOn.{as_lent}
use Rattle.mirror.specs.Mirror.{answered_of}
use Rattle.job.specs.Calls.{Outcome, step, next}
use Rattle.job.specs.Job.{Arrays, beside}
use Rattle.job.specs.declared.Head.{Head}
use Rattle.slices.specs.Synthesis.{Synthesis, synthesis}
use Rattle.capi.specs.Exports.{arrays_of}
use Rattle.capi.proofs.GoingOn.{gone_on}
use Rattle.capi.proofs.jobs.tomkhadi_head_step.Goals as goal
use Rattle.capi.proofs.jobs.tomkhadi_head_step.Goals.{Start}

-- what is lent of the search
abbrev lent : Start → Synthesis
lent c =
    let a = c.args in
    synthesis a.counts.now a.lengths.now a.symbols.now a.places.now a.sizes.now a.discs.now a.quotients.now a.current.now
    a.saved.now

pub returns-then-go_on : goal.returns-then-go_on
returns-then-go_on c =
    let a = c.args in
    gone_on a.head (lent (goal.at.returns-then-go_on c).Start) c.go_on.ensures c.if-go_on.true a.sums.now a.taps.now a.held.now c.unfinished_of.ensures

pub returns : goal.returns
returns c =
    let a = c.args in
    let held : Synthesis → Arrays = arrays_of a.sums.now a.taps.now a.held.now in
    let done = c.next.ensures
    ∙ ap₂ (λ (h : Head) (x : Synthesis). step (beside h (held x)) next) c.head_of.ensures
    (as_lent a.head (lent (goal.at.returns c).Start) c.go_on.ensures c.if-go_on.false) in
    record { answers = c.answered_of.ensures (held (lent (goal.at.returns c).Start)) [] ∙ ap answered_of done; arrays = ap (λ (o : Outcome). o.job.arrays) done }
