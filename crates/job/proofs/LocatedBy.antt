-- The job that is located, at once or in slices, is the one that its frame leaves: the start holds the frame's sums, no call between the steps changes what is
-- kept, and the step that ends the search gives what a locate by the check sums gives.
use mathlib.Core.Path.{◌≡◌, refl, sym, ap, subst, ◌∙◌}
use mathlib.Core.Bool.{true, false}
use mathlib.Core.List.{List, [], ◌∷◌, ◌++◌, append_assoc}
use Prim.Native.Nat.{ℕ}
use native.Mathlib.Omega.{arith}
use Rattle.decoding.specs.Remaining.{all_remaining}
use Rattle.frame.specs.DeclaredCells.{declared_by, as_read}
use Rattle.frame.specs.Frame.{held_sums}
use Rattle.frame.specs.Shape.{is_shape}
use Rattle.frame.specs.declared.Shape.{Shape}
use Rattle.frame.proofs.Declarable.{read-passes}
use Rattle.frame.proofs.HeldSums.{held-sequences}
use Rattle.job.specs.Calls.{Call, locate, start, next, columns, unfinished, Outcome, step}
use Rattle.job.specs.Calls.{located_by, started, stepped}
use Rattle.job.specs.Job.{Arrays, Job, unfinished_job, is_empty}
use Rattle.job.specs.Runs.{run, Taken, steps_in, LocatedBy, at_once, at-start, in_slices}
use Rattle.job.proofs.AfterRefusal.{never-columns}
use Rattle.job.proofs.Beginning.{start-passes, is-shape, walked}
use Rattle.job.proofs.Between.{step-refused}
use Rattle.job.proofs.Cases.{by_call}
use Rattle.job.proofs.Emptiness.{has-shape}
use Rattle.job.proofs.Forms.{Locates, located_frame, Comes, goes, comes, arrived, register-passes, run_then}
use Rattle.job.proofs.Going.{start-arrives, step-arrives}
use Rattle.job.proofs.Walk.{Walked, on, over}

pub never_both : {c : ℕ} → unfinished ≡ columns c → ⊥
never_both e = let z : ◌≡◌ {A = ℕ} 0 1 = cc in omega arith

-- ---- from the start on

module _ (s : Shape) (t : is_shape s ≡ true) (words f : List ℕ) where
  -- the job is located, by the frame
  abbrev By : Job → Type 0
  By j = (b : Arrays) × (j ≡ located_frame s b words f) × Locates s (declared_by words) f

  -- what is given where the search has come to the arrays
  module _ (a : Arrays) (g : List ℕ) (declared : a.declared ≡ words) where
    comes-located : (o : Outcome) → Comes s a g f o → (c : ℕ) → o.answer ≡ columns c → By o.job
    comes-located _ (goes n h going) c e = absurd (never_both e)
    comes-located _ (comes l) c e =
        (a, ap (λ (w : List ℕ). located_frame s a w f) declared, subst (λ (w : List ℕ). Locates s (declared_by w) f) declared l)

  step-located : (j : Job) (k : ℕ) → Walked s words f k j → (c : ℕ) → (step j next).answer ≡ columns c → By (step j next).job
  step-located _ k (on a x) =
      by_call (unfinished_job s a) next (λ o. (c : ℕ) → o.answer ≡ columns c → By o.job) (λ k m c e. absurd (never-columns (sym e)))
      (λ k p m c e. absurd (never-columns (sym e)))
      (λ p q. comes-located (stepped s a) [] x.declared _ (arrived s (stepped s a) [] f (step-arrives s t x.going) q))
  step-located j k (over _ all none held) =
      step-refused j none (λ o. (c : ℕ) → o.answer ≡ columns c → By o.job) (λ k c e. absurd (never-columns (sym e)))

-- ---- the start

module _ (j : Job) (words f : List ℕ) where
  abbrev s : Shape
  s = j.head.shape

  abbrev there : Arrays
  there = started s j.arrays words f

  start-comes : Taken (step j (start words f)) → (is_shape j.head.shape ≡ true) × Comes s there f f (step j (start words f))
  start-comes =
      by_call j (start words f) (λ o. Taken o → (is_shape j.head.shape ≡ true) × Comes s there f f o) (λ k m taken. absurd (taken (k, refl)))
      (λ k p m taken. absurd (taken (k, refl))) (λ (e, p) q taken.
      let t : is_shape s ≡ true = has-shape j.head e in
      (t, arrived s there f f (start-arrives s t j.arrays words f (read-passes s (declared_by words) f p)) q))

  locate-located : Taken (step j (locate words f)) → ((step j (locate words f)).job ≡ located_frame s j.arrays words f) × Locates s (declared_by words) f
  locate-located =
      by_call j (locate words f) (λ o. Taken o → (o.job ≡ located_frame s j.arrays words f) × Locates s (declared_by words) f)
      (λ k m taken. absurd (taken (k, refl))) (λ k p m taken. absurd (taken (k, refl))) (λ (e, p) q taken. (
        ap (λ S. located_by s j.arrays words (all_remaining s (declared_by words) S) (held_sums s (as_read s (declared_by words) f)))
            (held-sequences s (as_read s (declared_by words) f)),
        register-passes s (declared_by words) f _ q (read-passes s (declared_by words) f p),
      ))

-- ---- every way

pub located-by : (a : Arrays) (before : List Call) (words f : List ℕ) (locating : List Call) → LocatedBy a before words f locating
    → (b : Arrays) × (run a (before ++ locating) ≡ located_frame (run a before).head.shape b words f)
    × Locates (run a before).head.shape (declared_by words) f
located-by a before words f _ (at_once _ _ _ _ taken) =
    let (same, l) = locate-located (run a before) words f taken in
    ((run a before).arrays, run_then a before (locate words f) refl ∙ same, l)
located-by a before words f _ (at-start _ _ _ _ c answer) =
    let j : Job = run a before in
    let (t, come) = start-comes j words f (λ (k, refusal). never-columns (sym answer ∙ refusal)) in
    let (b, same, l) = comes-located j.head.shape t words f (started j.head.shape j.arrays words f) f refl _ come c answer in
    (b, run_then a before (start words f) refl ∙ same, l)
located-by a before words f _ (in_slices _ _ _ _ cs c taken slicing answer) =
    let j : Job = run a before in
    let p = start-passes j words f taken in
    let (b, same, l) =
    step-located j.head.shape (is-shape j words f p) words f _ (steps_in cs) (walked a before cs words f p slicing) c answer in
    (b, run_then a (before ++ (start words f ∷ cs)) next (append_assoc before (start words f ∷ cs) (next ∷ [])) ∙ same, l)

-- the job was not empty before them
pub located-not-empty : (a : Arrays) (before : List Call) (words f : List ℕ) (locating : List Call) → LocatedBy a before words f locating
    → is_empty (run a before) ≡ false
located-not-empty a before words f _ (at_once _ _ _ _ taken) =
    by_call (run a before) (locate words f) (λ o. Taken o → is_empty (run a before) ≡ false) (λ k m t. absurd (t (k, refl)))
    (λ k p m t. p.0) (λ p q t. p.0) taken
located-not-empty a before words f _ (at-start _ _ _ _ c answer) =
    (start-passes (run a before) words f (λ (k, refusal). never-columns (sym answer ∙ refusal))).0
located-not-empty a before words f _ (in_slices _ _ _ _ cs c taken slicing answer) = (start-passes (run a before) words f taken).0
