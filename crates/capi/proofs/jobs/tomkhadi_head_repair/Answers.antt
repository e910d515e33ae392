-- `capi::jobs::tomkhadi_head_repair` meets its contract, by those of the functions that it calls.
use mathlib.Core.Path.{◌∙◌, ap, sym}
use mathlib.Core.List.{[]}
use Rattle.mirror.specs.Mirror.{answered_of}
use Rattle.job.specs.Calls.{Outcome, step, repair}
use Rattle.job.specs.Job.{beside, with_read}
use Rattle.job.specs.declared.Head.{Head}
use Rattle.capi.proofs.jobs.tomkhadi_head_repair.Goals as goal

pub returns : goal.returns
returns c =
    λ b.
    let a = c.args in
    let done = c.repair.ensures b ∙ ap (λ (h : Head). step (beside h (with_read b a.sums.now a.held.now)) (repair a.frame.now))
    c.head_of.ensures in
    record {
      answers = c.answered_of.ensures b [] ∙ ap answered_of done;
      arrays = sym (ap (λ (o : Outcome). o.job.arrays) done);
      leaves = ap (λ (o : Outcome). o.frame) done;
    }
