-- The start of a locate in slices: what it gives, and that the walk through the steps begins there.
use mathlib.Core.Path.{◌≡◌, refl, ap, subst⁻¹, ◌∙◌}
use mathlib.Core.Bool.{true}
use mathlib.Core.List.{List, ◌∷◌, ◌++◌}
use Prim.Native.Nat.{ℕ, ◌+◌, ◌*◌, ◌<◌}
use native.Mathlib.Decide.{dec_lt}
use native.Mathlib.Omega.{arith}
use Rattle.decoding.specs.Remaining.{read_sequences}
use Rattle.frame.specs.DeclaredCells.{declared_by, WellFormedRead}
use Rattle.frame.specs.Shape.{is_shape}
use Rattle.frame.specs.declared.Shape.{Shape}
use Rattle.frame.proofs.Declarable.{read-passes}
use Rattle.refusal.specs.Order.{Test}
use Rattle.refusal.proofs.Orders.{Pass, by_tests, pass-otherwise}
use Rattle.register.specs.Sequences.{longest}
use Rattle.job.specs.Calls.{Call, start, Outcome, refusing, describe, step, started}
use Rattle.job.specs.Job.{Arrays, Job, empty_job}
use Rattle.job.specs.Runs.{run, run_from, after_calls, Taken, Slicing, steps_in}
use Rattle.job.specs.Slices.{slices_of}
use Rattle.job.proofs.Emptiness.{has-shape}
use Rattle.job.proofs.Forms.{goes_on, run-append}
use Rattle.job.proofs.Going.{Over, start-goes, start-ends}
use Rattle.job.proofs.Walk.{arrival, arrival-on, arrival-over, After, Walked, on, over, walk}

module _ (j : Job) (words f : List ℕ) where
  abbrev s : Shape
  s = j.head.shape

  -- the arrays that it leaves; its tests, which are those of locate too; and the longest length
  abbrev pub first : Arrays
  first = started j.head.shape j.arrays words f

  abbrev pub tests : List Test
  tests = (describe j (start words f)).keeping

  abbrev pub N : ℕ
  N = longest (read_sequences j.head.shape (declared_by words) f)

  pub start_is : Pass tests → step j (start words f) ≡ arrival j.head.shape first f
  unfolding step
  start_is p = pass-otherwise (refusing j f) _ tests p

  pub start-passes : Taken (step j (start words f)) → Pass tests
  unfolding step
  start-passes = by_tests (refusing j f) _ (λ (o : Outcome). Taken o → Pass tests) tests (λ k m taken. absurd (taken (k, refl))) (λ p taken. p)

  module _ (p : Pass tests) where
    pub is-shape : is_shape j.head.shape ≡ true
    is-shape = has-shape j.head p.0

    pub well_formed : WellFormedRead j.head.shape (declared_by words) f
    well_formed = read-passes s (declared_by words) f p.1

    begun : 0 < N → After s words f 0 first
    begun long =
        record { rounds = 0; steps = 0; going = start-goes s is-shape j.arrays words f well_formed long; declared = refl; count = omega arith }

    pub start-on : 0 < N → step j (start words f) ≡ goes_on j.head.shape first f
    start-on long = start_is p ∙ arrival-on s first f (begun long).going

    pub start-over : N ≡ 0 → Over j.head.shape first f
    start-over none = start-ends s is-shape j.arrays words f well_formed none

    -- where no sequence has a symbol there are no steps to make
    pub no_steps : N ≡ 0 → slices_of j.head.shape words f ≡ 0
    no_steps none = ap (λ (n : ℕ). n * s.rows) none ∙ (let z : 0 * s.rows ≡ 0 = omega arith in z)

    begun-walked : Walked s words f 0 (step j (start words f)).job
    begun-walked = pick (dec_lt 0 N)
      where
        pick : Dec (0 < N) → Walked s words f 0 (step j (start words f)).job
        pick (yes long) = subst⁻¹ (λ (o : Outcome). Walked s words f 0 o.job) (start-on long) (on first (begun long))
        pick (no none) =
            let zero : N ≡ 0 = omega arith in
            let (u, m) = arrival-over s first f (start-over zero) in
            subst⁻¹ (λ (o : Outcome). Walked s words f 0 o.job) (start_is p) (over _ (omega (arith, no_steps zero)) u m)

-- the job after the start and the calls after it
pub walked : (a : Arrays) (before between : List Call) (words f : List ℕ) → Pass (tests (run a before) words f)
    → Slicing (after_calls a before (start words f)).job between
    → Walked (run a before).head.shape words f (steps_in between) (run a (before ++ (start words f ∷ between)))
unfolding run_from
walked a before between words f p slicing =
    let j : Job = run a before in
    subst⁻¹ (Walked j.head.shape words f (steps_in between)) (run-append (empty_job a) before (start words f ∷ between))
    (walk j.head.shape (is-shape j words f p) words f between (step j (start words f)).job 0 (steps_in between)
    (let z : 0 + steps_in between ≡ steps_in between = omega arith in z) (begun-walked j words f p) slicing)
