-- `capi::jobs::tomkhadi_head_shape` meets its contract, by those of the functions that it calls.
use mathlib.Core.Path.{◌∙◌, ap, ap₂, sym}
use Prim.Native.Nat.{ℕ}
use Rattle.mirror.specs.Mirror.{shaped_of}
use Rattle.mirror.specs.declared.CHead.{CHead}
use Rattle.job.specs.Calls.{Outcome, step, shape}
use Rattle.job.specs.Job.{beside}
use Rattle.job.specs.declared.Head.{Head}
use Rattle.capi.proofs.jobs.tomkhadi_head_shape.Goals as goal

pub returns-in-Ok : goal.returns-in-Ok
returns-in-Ok c =
    λ a.
    let args = c.args in
    let made = c.in-Ok.ensures a
    ∙ ap (λ (h : Head). step (beside h a) (shape args.columns args.checks.now args.exponent)) c.head_of-j.ensures in
    record {
      answers = ap (λ (h : CHead). record { refusal = 0; head = h }) c.mirror_of.ensures ∙ ap shaped_of made;
      arrays = sym (ap (λ (o : Outcome). o.job.arrays) made);
    }

pub returns-in-Err : goal.returns-in-Err
returns-in-Err c =
    λ a.
    let args = c.args in
    let made = c.in-Err.ensures a
    ∙ ap (λ (h : Head). step (beside h a) (shape args.columns args.checks.now args.exponent)) c.head_of-j.ensures in
    record {
      answers = ap₂ (λ (k : ℕ) (h : CHead). record { refusal = k; head = h }) c.from.ensures c.mirror_of-in-Err.ensures ∙ ap shaped_of made;
      arrays = sym (ap (λ (o : Outcome). o.job.arrays) made);
    }
