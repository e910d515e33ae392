-- What is owed of eight jobs, for every list of calls and turns from eight empty ones. Proved in proofs/Demands.antt.
use Rattle.std.specs.Prelude.{◌≡◌, true, false, List, [], ◌∷◌, ◌++◌, ℕ, zero, suc, ◌*◌, ◌≤◌, ◌<◌, replicate}
use Rattle.std.proofs.Math.Option.{some}
use Rattle.frame.specs.declared.Shape.{Shape}
use Rattle.job.specs.Calls.{Call, shape, start, next, Outcome, by_sums}
use Rattle.job.specs.Job.{Arrays, is_unfinished}
use Rattle.job.specs.NothingDeclared.{no_words}
use Rattle.job.specs.Runs.{run, after_calls, last_shape, Taken, Slicing, steps_in}
use Rattle.job.specs.Slices.{slices_of, SameAnswer}
use Rattle.turns.specs.Dispatcher.{Jobs, Event, on, turn, says, reply, run_from, served, calls_on, turns_in, serves_in, turns}
use Rattle.turns.specs.Turning.{Calling, Turning, Unfinished}
use Rattle.eight_jobs.specs.Eight.{jobs, dispatched, calls_to}

-- Each job by itself sees exactly the list of its own calls, its steps by turns among them, and answers what it would by itself. So what is owed of one job
-- over every list of its calls (crate job: demands 1 to 3, slices) holds of each of the eight.
pub record Projected (a : ℕ → Arrays) (es : List (Event jobs)) (k : ℕ) : Type 0 where
  pub job : (dispatched a es).at k ≡ run (a k) (calls_to a k es)
  pub called : (c : Call) → reply jobs (dispatched a es) (on k c) ≡ says k (after_calls (a k) (calls_to a k es) c)
  pub turned : served jobs (dispatched a es) ≡ some k → reply jobs (dispatched a es) turn ≡ says k (after_calls (a k) (calls_to a k es) next)
  -- of jobs that calls leave the phase tells alone whether a locate is unfinished
  pub by-phase : jobs.unfinished ((dispatched a es).at k) ≡ is_unfinished ((dispatched a es).at k)

-- Each turn that is counted as serving job k is a step of it.
abbrev pub ServiceSteps : Type 0
ServiceSteps =
    (a : ℕ → Arrays) (before es : List (Event jobs)) (k : ℕ) →
    serves_in jobs k (dispatched a before) es ≤ steps_in (calls_on jobs k (dispatched a before) es)

-- While job k is unfinished it is served within any eight turns.
abbrev pub ServedWithin8 : Type 0
ServedWithin8 =
    (a : ℕ → Arrays) (before es : List (Event jobs)) (k : ℕ) → k < 8 → Unfinished jobs k (dispatched a before) es → turns_in jobs es ≡ 8 →
    1 ≤ serves_in jobs k (dispatched a before) es

-- A locate of job k in so many steps, from the jobs d after its start through the events; `located` is what a locate by the check sums
-- would have done in place of the start.
pub record Done (d : Jobs jobs) (k steps : ℕ) (located : Outcome) (es : List (Event jobs)) : Type 0 where
  pub most : steps ≤ 512
  -- with eight turns for each step all steps are made, and the job is not unfinished any more
  pub all_made : 8 * steps ≤ turns_in jobs es → (steps ≤ steps_in (calls_on jobs k d es)) × (jobs.unfinished ((run_from jobs d es).at k) ≡ false)
  -- so with 4,096 turns, whatever the frame
  pub within_4096 : 4096 ≤ turns_in jobs es → jobs.unfinished ((run_from jobs d es).at k) ≡ false
  -- the last step, by a call or by a turn that serves job k, answers and leaves what that locate would have
  pub last :
      suc (steps_in (calls_on jobs k d es)) ≡ steps →
      (o : Outcome) × SameAnswer o located × (reply jobs (run_from jobs d es) (on k next) ≡ says k o) ×
      (served jobs (run_from jobs d es) ≡ some k → reply jobs (run_from jobs d es) turn ≡ says k o)

-- A start on job k after `before` is not refused, and the events `es` after it do not drop it: the calls on job k among them, its steps by turns included, are
-- steps, peeks, encodes, or refused by other numbers than 24, 25, 26. What is done to the other jobs plays no part. (Of a list in which more is done to job k
-- once its locate is done, take the part before.)
abbrev pub DoneWithin4096 : Type 0
DoneWithin4096 =
    (a : ℕ → Arrays) (before es : List (Event jobs)) (k : ℕ) (s : Shape) (words f : List ℕ) → k < 8 → last_shape (calls_to a k before) ≡ some s →
    Taken (after_calls (a k) (calls_to a k before) (start words f)) →
    let d : Jobs jobs = dispatched a (before ++ (on k (start words f) ∷ [])) in
    Slicing (d.at k) (calls_on jobs k d es) → Done d k (slices_of s words f) (by_sums (run (a k) (calls_to a k before)) words f) es

-- the jobs 0 .. n − 1 given the largest number of steps: a shape of eight rows with 64 checks each, and a start of a frame of zeros, with no cell declared
unfoldable pub long_starts : (n : ℕ) → List (Event jobs)
long_starts zero = []
long_starts (suc n) = long_starts n ++ (on n (shape 65 (replicate 8 64) 1) ∷ (on n (start no_words (replicate 520 0)) ∷ []))

-- The bound is reached: started so, job 7 is unfinished after 4,095 turns, with no call between them.
abbrev pub Reached4096 : Type 0
Reached4096 =
    (a : ℕ → Arrays) →
    (turns_in jobs (turns jobs 4095) ≡ 4095) × (jobs.unfinished ((dispatched a (long_starts 8 ++ turns jobs 4095)).at 7) ≡ true)

pub record Dispatches : Type 0 where
  pub projected : (a : ℕ → Arrays) (es : List (Event jobs)) (k : ℕ) → k < 8 → Projected a es k
  pub calling : (a : ℕ → Arrays) (es : List (Event jobs)) (k : ℕ) (c : Call) → Calling jobs (dispatched a es) k c
  pub turning : (a : ℕ → Arrays) (es : List (Event jobs)) → Turning jobs (dispatched a es)
  pub service_steps : ServiceSteps
  pub served-within_8 : ServedWithin8
  pub done-within_4096 : DoneWithin4096
  pub reached_4096 : Reached4096
