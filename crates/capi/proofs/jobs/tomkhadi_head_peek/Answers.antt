-- `capi::jobs::tomkhadi_head_peek` meets its contract, by those of the functions that it calls.
use mathlib.Core.Path.{◌∙◌, ap, sym}
use Rattle.mirror.specs.Mirror.{peeked_of}
use Rattle.job.specs.Calls.{Outcome, step, peek}
use Rattle.job.specs.Job.{Arrays, beside, with_started}
use Rattle.job.specs.declared.Head.{Head}
use Rattle.slices.specs.Synthesis.{synthesis}
use Rattle.capi.proofs.jobs.tomkhadi_head_peek.Goals as goal

pub returns : goal.returns
returns c =
    λ b.
    let a = c.args in
    let lent : Arrays = with_started b a.sums.now a.held.now
    (synthesis a.counts.now a.lengths.now a.symbols.now a.places.now a.sizes.now a.discs.now
    a.quotients.now a.current.now a.saved.now) in
    let done = c.peek.ensures b.taps ∙ ap (λ (h : Head). step (beside h lent) peek) c.head_of.ensures in
    record {
      answers = c.peeked_of.ensures ∙ ap (λ (o : Outcome). peeked_of o.answer) done;
      job = sym (ap (λ (o : Outcome). o.job) done) ∙ ap (λ (h : Head). beside h lent) c.head_of.ensures;
    }
