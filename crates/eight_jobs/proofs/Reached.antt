-- Eight locates of 512 steps each: turns go round, and job 7 is not done before turn 4,096.
use mathlib.Core.Path.{◌≡◌, refl, ap, ◌∙◌}
use mathlib.Core.Bool.{true}
use Prim.Native.Nat.{ℕ, zero, suc, ◌<◌}
use native.Mathlib.Omega.{arith}
use lib.ListN.{replicate}
use Rattle.job.specs.Calls.{next}
use Rattle.job.specs.Job.{Arrays, Job}
use Rattle.job.specs.Runs.{run}
use Rattle.turns.specs.Dispatcher.{Jobs, after, run_from, call_on, calls_on, alone, turns}
use Rattle.turns.proofs.Appending.{run-append}
use Rattle.turns.proofs.Counting.{turns-counted}
use Rattle.turns.proofs.RoundAndRound.{round-and-round}
use Rattle.eight_jobs.specs.Demands.{long_starts, Reached4096}
use Rattle.eight_jobs.specs.Eight.{jobs, emptied, dispatched, calls_to}
use Rattle.eight_jobs.proofs.Longest.{long_calls, long-going}
use Rattle.eight_jobs.proofs.Projecting.{job_is}

module _ (a : ℕ → Arrays) where
  long-calls : (k : ℕ) → k < 8 → calls_to a k (long_starts 8) ≡ long_calls
  unfolding calls_on call_on long_starts
  long-calls zero b = refl
  long-calls (suc zero) b = refl
  long-calls (suc (suc zero)) b = refl
  long-calls (suc (suc (suc zero))) b = refl
  long-calls (suc (suc (suc (suc zero)))) b = refl
  long-calls (suc (suc (suc (suc (suc zero))))) b = refl
  long-calls (suc (suc (suc (suc (suc (suc zero)))))) b = refl
  long-calls (suc (suc (suc (suc (suc (suc (suc zero))))))) b = refl
  long-calls (suc (suc (suc (suc (suc (suc (suc (suc k)))))))) b = absurd (let z : ⊥ = omega arith in z)

  last_7 : (dispatched a (long_starts 8)).last ≡ 7
  unfolding run_from after long_starts
  last_7 = refl

  each_goes : (k i : ℕ) → k < 8 → i < 512 → jobs.unfinished (alone jobs ((dispatched a (long_starts 8)).at k) (replicate i next)) ≡ true
  each_goes k i b less =
      ap (λ (j : Job). jobs.unfinished (alone jobs j (replicate i next))) (job_is a (long_starts 8) k b ∙ ap (run (a k)) (long-calls k b))
      ∙ long-going (a k) i less

-- 4,095 turns are 511 rounds, and seven turns that do not come to job 7 again
pub reached_4096 : Reached4096
reached_4096 a = (
  turns-counted jobs 4095,
  ap (λ (d : Jobs jobs). jobs.unfinished (d.at 7)) (run-append jobs (emptied a) (long_starts 8) (turns jobs 4095))
      ∙ ap jobs.unfinished (round-and-round jobs (dispatched a (long_starts 8)) 512 4095 7 (last_7 a) (each_goes a) (omega arith) (omega arith))
      ∙ each_goes a 7 511 (omega arith) (omega arith),
)
