-- One job: its phase alone tells whether it is unfinished, which it is from its start to the last of its steps, 512 at most; and what that step does.
use mathlib.Core.Path.{◌≡◌, refl, sym, subst}
use mathlib.Core.Bool.{true, false}
use mathlib.Core.List.{List, [], ◌∷◌, ◌++◌}
use mathlib.Core.Option.{some}
use Prim.Native.Nat.{ℕ, suc, ◌≤◌, ◌<◌}
use native.Mathlib.Nat.{mul-le-mul}
use native.Mathlib.Omega.{arith}
use Rattle.frame.specs.DeclaredCells.{declared_by}
use Rattle.frame.specs.Shape.{is_shape}
use Rattle.frame.specs.declared.Shape.{Shape}
use Rattle.frame.proofs.Shapes.{shape-ranges}
use Rattle.job.specs.Calls.{Call, start, next, step, by_sums}
use Rattle.job.specs.Job.{Arrays, Job, empty_job, is_unfinished, is_unfinished_phase}
use Rattle.job.specs.Runs.{run, run_from, after_calls, last_shape, Taken, Slicing, steps_in}
use Rattle.job.specs.Slices.{slices_of, SameAnswer}
use Rattle.job.proofs.Beginning.{start-passes, walked}
use Rattle.job.proofs.Forms.{Form, empty, shaped, unfinished, located, run_form, run-append}
use Rattle.job.proofs.Going.{going-sound, sliceable}
use Rattle.job.proofs.Slices.{locates_in_slices}
use Rattle.job.proofs.Soundness.{shape-held}
use Rattle.job.proofs.Walk.{Walked, on, over as past, after_less}
use Rattle.turns.specs.Dispatcher.{alone}
use Rattle.eight_jobs.specs.Eight.{jobs}

-- among the eight it runs as by itself
pub alone-run : (j : Job) (cs : List Call) → alone jobs j cs ≡ run_from j cs
unfolding alone run_from
alone-run j [] = refl
alone-run j (c ∷ cs) = alone-run (step j c).job cs

-- an unfinished job that calls leave holds what the next step asks for
form_phase : (j : Job) → Form j → is_unfinished_phase j.head.phase ≡ is_unfinished j
form_phase _ (empty a) = refl
form_phase _ (shaped s a t) = refl
form_phase _ (unfinished s a f n h t going) = sym (going-sound s t going)
form_phase _ (located s a words f t l) = refl

pub by-phase : (a : Arrays) (calls : List Call) → is_unfinished_phase (run a calls).head.phase ≡ is_unfinished (run a calls)
by-phase a calls = form_phase (run a calls) (run_form a calls)

-- ---- after k steps

module _ (s : Shape) (words f : List ℕ) (k : ℕ) where
  pub walked_on : (j : Job) → Walked s words f k j → k < slices_of s words f → is_unfinished_phase j.head.phase ≡ true
  walked_on _ (on a x) less = refl
  walked_on _ (past j all u m) less = absurd (let z : ⊥ = omega arith in z)

  walked-over : (j : Job) → Walked s words f k j → slices_of s words f ≤ k → is_unfinished_phase j.head.phase ≡ false
  walked-over _ (on a x) all = absurd (let z : ⊥ = omega (arith, after_less x) in z)
  walked-over _ (past j all u m) _ = u

-- ---- a start that is not refused, and the calls after it

module _ (a : Arrays) (before : List Call) (s : Shape) (words f : List ℕ) (last : last_shape before ≡ some s)
    (taken : Taken (after_calls a before (start words f))) where
  abbrev started : Job
  started = (after_calls a before (start words f)).job

  after-start : (between : List Call) → Slicing started between → Walked s words f (steps_in between) (run_from started between)
  unfolding run_from
  after-start between slicing =
      subst (Walked s words f (steps_in between)) (run-append (empty_job a) before (start words f ∷ between))
      (subst (λ (x : Shape). Walked x words f (steps_in between) (run a (before ++ (start words f ∷ between)))) (shape-held a before s last).1
      (walked a before between words f (start-passes (run a before) words f taken) slicing))

  pub begun : Walked s words f 0 (after_calls a before (start words f)).job
  unfolding run_from steps_in
  begun = after-start [] tt

  module _ (between : List Call) (slicing : Slicing (after_calls a before (start words f)).job between) where
    pub going : steps_in between < slices_of s words f → is_unfinished_phase (run_from (after_calls a before (start words f)).job between).head.phase ≡ true
    going = walked_on s words f (steps_in between) _ (after-start between slicing)

    pub over : slices_of s words f ≤ steps_in between → is_unfinished_phase (run_from (after_calls a before (start words f)).job between).head.phase ≡ false
    over = walked-over s words f (steps_in between) _ (after-start between slicing)

    -- the last step does what a locate by the check sums would have
    pub last_step : suc (steps_in between) ≡ slices_of s words f
        → SameAnswer (step (run_from (after_calls a before (start words f)).job between) next) (by_sums (run a before) words f)
    unfolding run_from
    last_step all =
        subst (λ (j : Job). SameAnswer (step j next) (by_sums (run a before) words f)) (run-append (empty_job a) before (start words f ∷ between))
        ((locates_in_slices.slices a before between s words f last taken slicing).last all)

-- ---- how many steps

pub most_512 : (s : Shape) (words f : List ℕ) → is_shape s ≡ true → slices_of s words f ≤ 512
most_512 s words f t = mul-le-mul (sliceable s t (declared_by words) f).short (shape-ranges s t).rows-most
