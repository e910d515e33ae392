-- Which heads count as empty: those that are not sound, and of the others those whose phase is. What a located job must hold, by its tests.
use mathlib.Core.Path.{◌≡◌, sym, ap, ◌∙◌}
use mathlib.Core.Bool.{Bool, true, false, not, ◌&&◌, ◌||◌, and-false, or-true, or-false, and-eq-true_iff, false≢true}
use Prim.Native.Nat.{ℕ}
use lib.Dec.{ltb, eqb}
use lib.ListN.{length}
use borrow.Author.Tests.{eq-eqb, ne_eqb}
use Rattle.columns.specs.Columns.{has, members}
use Rattle.columns.specs.declared.Columns.{Columns}
use Rattle.decoding.specs.Locating.{rows_reach}
use Rattle.frame.specs.Shape.{is_shape}
use Rattle.frame.specs.declared.Shape.{Shape}
use Rattle.job.specs.Job.{findings_sound, counts_empty, is_empty_phase, phase_sound, head_sound}
use Rattle.job.specs.declared.Head.{Head}
use Rattle.job.specs.declared.Phase.{Phase}
use Rattle.job.specs.declared.Phase.TheVariants.{Empty, Shaped, Unfinished, Located}
use Rattle.lists.specs.Tabulate.{every}
use Rattle.refusal.proofs.Orders.{no_fail}

pub unsound_empty : (j : Head) → head_sound j ≡ false → counts_empty j ≡ true
unfolding counts_empty
unsound_empty j e = ap (λ b. is_empty_phase j.phase || not b) e ∙ or-true (is_empty_phase j.phase)

pub sound_empty : (j : Head) → head_sound j ≡ true → counts_empty j ≡ is_empty_phase j.phase
unfolding counts_empty
sound_empty j e = ap (λ b. is_empty_phase j.phase || not b) e ∙ or-false (is_empty_phase j.phase)

-- ---- sound, by the phase

abbrev sound_in : Head → Phase → Bool
sound_in j p = phase_sound p j.shape j.columns

pub empty-sound : (j : Head) → j.phase ≡ Empty → head_sound j ≡ true
unfolding head_sound phase_sound
empty-sound j e = ap (sound_in j) e

pub shaped-sound : (j : Head) → j.phase ≡ Shaped → head_sound j ≡ is_shape j.shape
unfolding head_sound phase_sound
shaped-sound j e = ap (sound_in j) e

pub unfinished-sound : (j : Head) → j.phase ≡ Unfinished → head_sound j ≡ is_shape j.shape
unfolding head_sound phase_sound
unfinished-sound j e = ap (sound_in j) e

module _ (j : Head) (c : ℕ) (a : Bool) (located : j.phase ≡ Located c a) where
  abbrev findings : Bool
  findings = findings_sound j.shape j.columns c a

  pub located_shapeless : is_shape j.shape ≡ false → head_sound j ≡ false
  unfolding head_sound phase_sound
  located_shapeless e = ap (sound_in j) located ∙ ap (λ t. t && findings) e

  pub located-sound : is_shape j.shape ≡ true → head_sound j ≡ findings
  unfolding head_sound phase_sound
  located-sound e = ap (sound_in j) located ∙ ap (λ t. t && findings) e

-- ---- what a located job holds

module _ (s : Shape) (J : Columns) (c : ℕ) (a : Bool) where
  abbrev inside : Bool
  inside = every 256 (λ i. not (has J i) || ltb i s.columns)

  abbrev counted : Bool
  counted = eqb (length (members J)) c

  pub not-alone : a ≡ false → findings_sound s J c a ≡ false
  unfolding findings_sound
  not-alone e = ap (λ t. t && (inside && (counted && rows_reach s c))) e

  pub outside : inside ≡ false → findings_sound s J c a ≡ false
  unfolding findings_sound
  outside e = ap (λ t. a && (t && (counted && rows_reach s c))) e ∙ and-false a

  pub miscounted : (length (members J) ≡ c → ⊥) → findings_sound s J c a ≡ false
  unfolding findings_sound
  miscounted n = ap (λ t. a && (inside && (t && rows_reach s c))) (ne_eqb _ c n) ∙ simp and-false

  pub reach-left : a ≡ true → inside ≡ true → length (members J) ≡ c → findings_sound s J c a ≡ rows_reach s c
  unfolding findings_sound
  reach-left alone within count =
      ap (λ t. t && (inside && (counted && rows_reach s c))) alone ∙ ap (λ t. t && (counted && rows_reach s c)) within
      ∙ ap (λ t. t && rows_reach s c) (eq-eqb _ c count)

-- a head that does not count as empty has a shape
pub has-shape : (h : Head) → counts_empty h ≡ false → is_shape h.shape ≡ true
unfolding counts_empty head_sound phase_sound
has-shape h e = of_phase h.phase e
  where
    of_phase : (p : Phase) → (is_empty_phase p || not (phase_sound p h.shape h.columns)) ≡ false → is_shape h.shape ≡ true
    of_phase Empty e = absurd (false≢true (sym e))
    of_phase Shaped e = no_fail _ e
    of_phase Unfinished e = no_fail _ e
    of_phase (Located c a) e = ((and-eq-true_iff (is_shape h.shape) (findings_sound h.shape h.columns c a)).0 (no_fail _ e)).0
