-- `capi::jobs::tomkhadi_head_locate` meets its contract, by those of the functions that it calls.
use mathlib.Core.Path.{◌∙◌, ap}
use mathlib.Core.List.{[]}
use Rattle.mirror.specs.Mirror.{answered_of}
use Rattle.job.specs.Calls.{Outcome, step, locate}
use Rattle.job.specs.Job.{beside, with_found}
use Rattle.job.specs.declared.Head.{Head}
use Rattle.capi.proofs.jobs.tomkhadi_head_locate.Goals as goal

pub returns : goal.returns
returns c =
    λ b.
    let a = c.args in
    let done = c.locate.ensures b
    ∙ ap (λ (h : Head). step (beside h (with_found b a.sums.now a.taps.now a.held.now)) (locate a.declared.now a.frame.now))
    c.head_of.ensures in
    record { answers = c.answered_of.ensures b [] ∙ ap answered_of done; arrays = ap (λ (o : Outcome). o.job.arrays) done }
