-- Eight jobs as SPECIFICATION.md, "Eight jobs", has them: turns among jobs that locate in slices, from eight empty ones.
use Rattle.std.specs.Prelude.{List, ℕ}
use Rattle.job.specs.Calls.{Call, next, Outcome, step}
use Rattle.job.specs.Job.{Arrays, Job, empty_job, is_unfinished_phase}
use Rattle.turns.specs.Dispatcher.{Kind, Jobs, Event, run_from, calls_on}

-- Whether a job is unfinished goes by its phase alone: a turn looks at no array to find whom to serve. Of jobs that calls leave it is the same (`by-phase` of
-- specs/Demands.antt).
abbrev pub jobs : Kind
jobs =
    record {
      job = Job;
      call = Call;
      answer = Outcome;
      leaves = λ j c. (step j c).job;
      answers = step;
      step = next;
      unfinished = λ j. is_unfinished_phase j.head.phase;
    }

-- eight empty jobs, job k beside the arrays a k, which may hold anything; job 7 counts as served last
abbrev pub emptied : (ℕ → Arrays) → Jobs jobs
emptied a = record { at = λ k. empty_job (a k); last = 7 }

-- the jobs after a list of calls and turns
abbrev pub dispatched : (ℕ → Arrays) → List (Event jobs) → Jobs jobs
dispatched a es = run_from jobs (emptied a) es

-- the calls on job k in that list, its steps by turns among them
abbrev pub calls_to : (ℕ → Arrays) → (k : ℕ) → List (Event jobs) → List Call
calls_to a k es = calls_on jobs k (emptied a) es
