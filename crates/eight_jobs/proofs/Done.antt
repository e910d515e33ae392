-- A locate that nothing drops has made all its steps after eight times as many turns, so after 4,096, and the last of them does what a locate by the check
-- sums would have.
use mathlib.Core.Path.{◌≡◌, ap, subst, subst⁻¹, ◌∙◌}
use mathlib.Core.Bool.{false}
use mathlib.Core.List.{List, [], ◌∷◌, ◌++◌}
use mathlib.Core.Option.{some}
use Prim.Native.Nat.{ℕ, suc, ◌*◌, ◌≤◌, ◌<◌}
use native.Mathlib.Decide.{dec_lt}
use native.Mathlib.Omega.{arith}
use Rattle.frame.specs.declared.Shape.{Shape}
use Rattle.job.specs.Calls.{Call, start, next, step, by_sums}
use Rattle.job.specs.Job.{Arrays, Job, is_unfinished_phase}
use Rattle.job.specs.Runs as job
use Rattle.job.specs.Runs.{run, after_calls, last_shape, Taken, Slicing, steps_in}
use Rattle.job.specs.Slices.{slices_of, SameAnswer}
use Rattle.job.proofs.Demands.{shaped_so}
use Rattle.job.proofs.Walk.{Walked}
use Rattle.turns.specs.Dispatcher.{Jobs, Event, on, run_from, calls_on, turns_in}
use Rattle.turns.proofs.Appending.{run-append}
use Rattle.turns.proofs.Calling.{calling}
use Rattle.turns.proofs.Fairness.{few-turns}
use Rattle.turns.proofs.LastServed.{last-below}
use Rattle.turns.proofs.Projecting.{projection}
use Rattle.turns.proofs.Turning.{turning}
use Rattle.eight_jobs.specs.Demands.{Done, DoneWithin4096}
use Rattle.eight_jobs.specs.Eight.{jobs, emptied, dispatched, calls_to}
use Rattle.eight_jobs.proofs.OneJob.{alone-run, begun, over, last_step, most_512}
use Rattle.eight_jobs.proofs.Projecting.{below, job_is}
use Rattle.eight_jobs.proofs.Steps.{serves-steps, unfinished-through}

module _ (a : ℕ → Arrays) (before es : List (Event jobs)) (k : ℕ) (s : Shape) (words f : List ℕ) (b : k < 8)
    (last : last_shape (calls_to a k before) ≡ some s) (taken : Taken (after_calls (a k) (calls_to a k before) (start words f))) where
  abbrev d : Jobs jobs
  d = dispatched a (before ++ (on k (start words f) ∷ []))

  abbrev calls : List Call
  calls = calls_on jobs k d es

  begins-below : d.last < 8
  begins-below = below a (before ++ (on k (start words f) ∷ []))

  started : d.at k ≡ (after_calls (a k) (calls_to a k before) (start words f)).job
  unfolding run_from
  started =
      ap (λ (x : Jobs jobs). x.at k) (run-append jobs (emptied a) before (on k (start words f) ∷ []))
      ∙ (calling jobs (dispatched a before) k (start words f)).job b ∙ ap (λ (j : Job). (step j (start words f)).job) (job_is a before k b)

  -- were steps left, job k would be unfinished at each turn, so served at every eighth at least
  all_made : Slicing (d.at k) calls → 8 * slices_of s words f ≤ turns_in jobs es → slices_of s words f ≤ steps_in calls
  all_made slicing many = pick (dec_lt (steps_in calls) (slices_of s words f))
    where
      pick : Dec (steps_in calls < slices_of s words f) → slices_of s words f ≤ steps_in calls
      pick (yes less) =
          let going =
          unfinished-through s (shaped_so (a k) (calls_to a k before) s last) words f k b d es 0
          (subst⁻¹ (Walked s words f 0) started (begun (a k) (calls_to a k before) s words f last taken)) slicing (omega arith) in
          let few = few-turns jobs d es k begins-below b going in
          absurd (let z : ⊥ = omega (arith, serves-steps k d es) in z)
      pick (no all) = omega arith

  -- job k after the events, as it would be by itself
  job-after : (run_from jobs d es).at k ≡ job.run_from (after_calls (a k) (calls_to a k before) (start words f)).job calls
  job-after = projection jobs d es k b ∙ alone-run (d.at k) calls ∙ ap (λ (j : Job). job.run_from j calls) started

  module _ (slicing : Slicing (d.at k) calls) where
    by_itself : Slicing (after_calls (a k) (calls_to a k before) (start words f)).job calls
    by_itself = subst (λ (j : Job). Slicing j calls) started slicing

    finished : slices_of s words f ≤ steps_in calls → jobs.unfinished ((run_from jobs d es).at k) ≡ false
    finished all =
        ap (λ (j : Job). is_unfinished_phase j.head.phase) job-after
        ∙ over (a k) (calls_to a k before) s words f last taken calls by_itself all

    last-answer : suc (steps_in calls) ≡ slices_of s words f
        → SameAnswer (step ((run_from jobs d es).at k) next) (by_sums (run (a k) (calls_to a k before)) words f)
    last-answer all =
        subst⁻¹ (λ (j : Job). SameAnswer (step j next) (by_sums (run (a k) (calls_to a k before)) words f)) job-after
        (last_step (a k) (calls_to a k before) s words f last taken calls by_itself all)

    done : Done d k (slices_of s words f) (by_sums (run (a k) (calls_to a k before)) words f) es
    done =
        let most = most_512 s words f (shaped_so (a k) (calls_to a k before) s last) in
        record {
          most = most;
          all_made = λ many. let all = all_made slicing many in (all, finished all);
          within_4096 = λ many. finished (all_made slicing (omega arith));
          last = λ all. (
            step ((run_from jobs d es).at k) next,
            last-answer all,
            (calling jobs (run_from jobs d es) k next).answer b,
            λ e. ((turning jobs (run_from jobs d es) (last-below jobs d es begins-below)).serving k e).answer,
          );
        }

pub done-within_4096 : DoneWithin4096
done-within_4096 = done
