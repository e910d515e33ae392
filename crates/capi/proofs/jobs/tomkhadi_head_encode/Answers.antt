-- `capi::jobs::tomkhadi_head_encode` meets its contract, by those of the functions that it calls.
use mathlib.Core.Path.{◌∙◌, ap, sym}
use Rattle.mirror.specs.Mirror.{refusal_of}
use Rattle.job.specs.Calls.{Outcome, step, encode}
use Rattle.job.specs.Job.{beside}
use Rattle.job.specs.declared.Head.{Head}
use Rattle.capi.proofs.jobs.tomkhadi_head_encode.Goals as goal

pub returns : goal.returns
returns c =
    λ b.
    let a = c.args in
    let done = c.encode.ensures b ∙ ap (λ (h : Head). step (beside h b) (encode a.frame.now)) c.head_of.ensures in
    record {
      answers = c.refusal_of.ensures ∙ ap (λ (o : Outcome). refusal_of o.answer) done;
      job = sym (ap (λ (o : Outcome). o.job) done) ∙ ap (λ (h : Head). beside h b) c.head_of.ensures;
      leaves = ap (λ (o : Outcome). o.frame) done;
    }
