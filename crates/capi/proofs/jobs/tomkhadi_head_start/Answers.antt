-- `capi::jobs::tomkhadi_head_start` meets its contract, by those of the functions that it calls.
use mathlib.Core.Path.{◌∙◌, ap}
use mathlib.Core.List.{[]}
use Rattle.mirror.specs.Mirror.{answered_of}
use Rattle.job.specs.Calls.{Outcome, step, start}
use Rattle.job.specs.Job.{Arrays, beside}
use Rattle.job.specs.declared.Head.{Head}
use Rattle.slices.specs.Synthesis.{synthesis}
use Rattle.capi.specs.Exports.{arrays_of}
use Rattle.capi.proofs.jobs.tomkhadi_head_start.Goals as goal

pub returns : goal.returns
returns c =
    let a = c.args in
    let lent : Arrays = arrays_of a.sums.now a.taps.now a.held.now
    (synthesis a.counts.now a.lengths.now a.symbols.now a.places.now a.sizes.now a.discs.now
    a.quotients.now a.current.now a.saved.now) in
    let done = c.start.ensures ∙ ap (λ (h : Head). step (beside h lent) (start a.declared.now a.frame.now)) c.head_of.ensures in
    record { answers = c.answered_of.ensures lent [] ∙ ap answered_of done; arrays = ap (λ (o : Outcome). o.job.arrays) done }
