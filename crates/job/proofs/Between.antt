-- Encodes, peeks, and calls refused by numbers that are not late leave the job as it is; so does a step where there is none to make.
use mathlib.Core.Path.{◌≡◌, refl, sym, ap, subst⁻¹, ◌∙◌}
use mathlib.Core.Logic.{◌⊎◌, inl, inr}
use mathlib.Core.Bool.{Bool, false, not, ◌&&◌, false≢true}
use mathlib.Core.List.{List, [], ◌∷◌}
use Prim.Native.Nat.{ℕ}
use Rattle.job.specs.Calls.{Call, encode, next, peek, Outcome, refusing, not_unfinished_test, step}
use Rattle.job.specs.Job.{Job, is_unfinished_phase, step_sound}
use Rattle.job.specs.Runs.{run_from, Between, IsEncode, RefusedEarly}
use Rattle.job.proofs.AfterRefusal.{left}
use Rattle.job.proofs.Cases.{by_call}

pub encode-keeps : (j : Job) (c : Call) → IsEncode c → (step j c).job ≡ j
encode-keeps j c (f, e) =
    subst⁻¹ (λ (x : Call). (step j x).job ≡ j) e (by_call j (encode f) (λ o. o.job ≡ j) (λ k a. refl) (λ k p a. absurd a) (λ p q. refl))

pub refused-keeps : (j : Job) (c : Call) → RefusedEarly (step j c) → (step j c).job ≡ j
refused-keeps j c (k, e, early) = (left j c k e).kept early

pub between-keeps : (j : Job) (calls : List Call) → Between j calls → run_from j calls ≡ j
unfolding run_from
between-keeps j [] b = refl
between-keeps j (c ∷ cs) b = between-keeps (step j c).job cs b.1 ∙ kept b.0
  where
    kept : IsEncode c ⊎ RefusedEarly (step j c) → (step j c).job ≡ j
    kept (inl e) = encode-keeps j c e
    kept (inr r) = refused-keeps j c r

-- a peek keeps every job
pub peek-keeps : (j : Job) → (step j peek).job ≡ j
peek-keeps j = by_call j peek (λ o. o.job ≡ j) (λ k m. refl) (λ k p m. absurd m) (λ p q. refl)

module _ (j : Job) (none : is_unfinished_phase j.head.phase ≡ false) where
  not-unfinished : (not_unfinished_test j).fails ≡ false → ⊥
  not-unfinished e = false≢true (sym e ∙ ap (λ (b : Bool). not (b && step_sound j.head.shape j.arrays)) none)

  -- a step is refused
  pub step-refused : (P : Outcome → Type 0) → ((k : ℕ) → P (refusing j [] k)) → P (step j next)
  step-refused P refusal = by_call j next P (λ k m. refusal k) (λ k p m. absurd (not-unfinished p.1.0)) (λ p q. absurd (not-unfinished p.1.0))
