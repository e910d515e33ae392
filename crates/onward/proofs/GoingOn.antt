-- A step that is not the last one, test by test; and that it is what the call does where the phase is unfinished.
use mathlib.Core.Path.{◌≡◌, refl, sym, ap, ◌∙◌}
use mathlib.Core.Bool.{Bool, true, false, not, and-eq-true_iff, false≢true}
use mathlib.Core.List.{List, []}
use Prim.Native.Nat.{ℕ}
use Rattle.columns.specs.declared.Columns.{Columns}
use Rattle.frame.specs.Shape.{is_shape}
use Rattle.frame.specs.declared.Shape.{Shape}
use Rattle.job.specs.Answers.{answered_outcome}
use Rattle.job.specs.Calls.{next, step}
use Rattle.job.specs.Job.{beside, counts_empty, head_sound, phase_sound, step_sound}
use Rattle.job.specs.declared.Head.{Head}
use Rattle.job.specs.declared.Phase.TheVariants.{Unfinished}
use Rattle.slices.specs.Synthesis.{Synthesis, last_step_of, ended, advanced, synthesis_sound}
use Rattle.slices.proofs.Answers.{fails, passes, suffices}
use Rattle.searching.specs.Arriving.{all_arrays, goes_on}
use Rattle.onward.specs.GoingOn.{GoesOn, goes_onward}
use Rattle.searching.proofs.Arriving.{goes-on-given}
use Rattle.searching.proofs.Calling.{next-goes-on}
use Rattle.searching.proofs.Turning.{ended-last}

-- ---- the tests

-- nothing is made, and told so
module _ (unfinished : Bool) (s : Shape) (x : Synthesis) where
  stays : false ≡ goes_onward unfinished s x → GoesOn unfinished s x false x
  stays told = record { told = told; left = refl }

  pub other-phase : unfinished ≡ false → GoesOn unfinished s x false x
  other-phase e = stays (fails _ _ e)

  module _ (is : unfinished ≡ true) where
    pub no-shape : is_shape s ≡ false → GoesOn unfinished s x false x
    no-shape e = stays (passes _ _ is (fails _ _ e))

    module _ (shape : is_shape s ≡ true) where
      pub no_step : synthesis_sound s.rows x ≡ false → GoesOn unfinished s x false x
      no_step e = stays (passes _ _ is (passes _ _ shape (fails _ _ e)))

      module _ (sound : synthesis_sound s.rows x ≡ true) where
        pub last_one : last_step_of s.rows x ≡ true → GoesOn unfinished s x false x
        last_one e = stays (passes _ _ is (passes _ _ shape (passes _ _ sound (sym (ap not e)))))

        pub made : last_step_of s.rows x ≡ false → {y : Synthesis} → y ≡ advanced s.rows x → GoesOn unfinished s x true y
        made e given = record { told = passes _ _ is (passes _ _ shape (passes _ _ sound (sym (ap not e)))); left = given }

-- ---- the call

module _ (s : Shape) (J : Columns) (sums taps held : List ℕ) (x : Synthesis) (onward : goes_onward true s x ≡ true) where
  abbrev h : Head
  h = record { phase = Unfinished; shape = s; columns = J }

  shaped : is_shape s ≡ true
  shaped = ((and-eq-true_iff (is_shape s) _).0 onward).0

  inside : (synthesis_sound s.rows x ≡ true) × (not (last_step_of s.rows x) ≡ true)
  inside = (and-eq-true_iff (synthesis_sound s.rows x) _).0 ((and-eq-true_iff (is_shape s) _).0 onward).1

  sound : step_sound s (all_arrays sums taps held x) ≡ true
  unfolding step_sound
  sound = sym (passes _ _ inside.0 (suffices _ _ inside.1))

  full : counts_empty h ≡ false
  unfolding counts_empty head_sound phase_sound
  full = ap not shaped

  going : (b : Bool) → ended (advanced s.rows x) ≡ b → b ≡ false
  going false e = refl
  going true e =
      absurd (false≢true (ap not (sym (ended-last s held sums taps x record { shape = shaped; sound = sound } e)) ∙ inside.1))

  pub goes-on-next : answered_outcome (goes_on s) (all_arrays sums taps held (advanced s.rows x)) [] ≡ step (beside h (all_arrays sums taps held x)) next
  goes-on-next =
      goes-on-given s (all_arrays sums taps held (advanced s.rows x)) [] (going _ refl) refl ∙ next-goes-on (beside h (all_arrays sums taps held x)) full sound
