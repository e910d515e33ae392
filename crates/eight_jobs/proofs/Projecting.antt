-- Each of the eight jobs is what it would be by itself after its own calls.
use mathlib.Core.Path.{◌≡◌, ap, subst⁻¹, ◌∙◌}
use mathlib.Core.List.{List}
use Prim.Native.Nat.{ℕ, ◌<◌}
use native.Mathlib.Omega.{arith}
use Rattle.job.specs.Calls.{next, step}
use Rattle.job.specs.Job.{Arrays, Job, empty_job, is_unfinished, is_unfinished_phase}
use Rattle.job.specs.Runs.{run}
use Rattle.turns.specs.Dispatcher.{Event, says}
use Rattle.turns.proofs.Calling.{calling}
use Rattle.turns.proofs.LastServed.{last-below}
use Rattle.turns.proofs.Projecting.{projection}
use Rattle.turns.proofs.Turning.{turning}
use Rattle.eight_jobs.specs.Demands.{Projected}
use Rattle.eight_jobs.specs.Eight.{jobs, emptied, dispatched, calls_to}
use Rattle.eight_jobs.proofs.OneJob.{alone-run, by-phase}

-- the one served last is one of the eight
pub below : (a : ℕ → Arrays) (es : List (Event jobs)) → (dispatched a es).last < 8
below a es = last-below jobs (emptied a) es (omega arith)

module _ (a : ℕ → Arrays) (es : List (Event jobs)) (k : ℕ) (b : k < 8) where
  pub job_is : (dispatched a es).at k ≡ run (a k) (calls_to a k es)
  job_is = projection jobs (emptied a) es k b ∙ alone-run (empty_job (a k)) (calls_to a k es)

  pub projected : Projected a es k
  projected =
      record {
        job = job_is;
        called = λ c. (calling jobs (dispatched a es) k c).answer b ∙ ap (λ (j : Job). says k (step j c)) job_is;
        turned = λ e. ((turning jobs (dispatched a es) (below a es)).serving k e).answer ∙ ap (λ (j : Job). says k (step j next)) job_is;
        by-phase = subst⁻¹ (λ (j : Job). is_unfinished_phase j.head.phase ≡ is_unfinished j) job_is (by-phase (a k) (calls_to a k es));
      }
