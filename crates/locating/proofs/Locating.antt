-- Locating from sums: what the finder answers is the shortest register of what is left of them, and locating by that register is what a locate by the check
-- sums does.
use mathlib.Core.Path.{◌≡◌, refl, sym, ap, ap₂, ◌∙◌}
use mathlib.Core.Bool.{Bool, true}
use mathlib.Core.List.{List, ◌++◌}
use Prim.Native.Nat.{ℕ, suc, ◌-◌}
use native.Mathlib.Omega.{arith}
use lib.ListN.{length, take, replicate}
use lib.Seq.{take_at}
use Rattle.decoding.specs.Locating.{taps_of}
use Rattle.decoding.specs.Remaining.{all_remaining}
use Rattle.decoding.proofs.LeftLengths.{size-most}
use Rattle.decoding.proofs.SequenceRegister.{generator_of, length-taps}
use Rattle.finder.specs.declared.Register.{Register}
use Rattle.frame.specs.DeclaredCells.{declared_by, as_read}
use Rattle.frame.specs.Frame.{held_sums, held_sequences}
use Rattle.frame.specs.Shape.{is_shape}
use Rattle.frame.specs.declared.Shape.{Shape}
use Rattle.from_register.specs.Register.{Locatable, Held, by_register}
use Rattle.job.proofs.ByShortest.{same_tests}
use Rattle.job.specs.Calls.{Outcome, refusing, locates}
use Rattle.job.specs.Job.{Arrays, shaped_job}
use Rattle.refusal.specs.Order.{first_of}
use Rattle.locating.specs.FromSums.{from_sums, seen_from}
use Rattle.locating.specs.RegisterOf.{RegisterOf}

-- ---- what the finder answers

module _ (s : Shape) (words sums buffer : List ℕ) (r : Register) (said : RegisterOf s (declared_by words) sums buffer r) where
  abbrev left : List (List ℕ)
  left = all_remaining s (declared_by words) (held_sequences s sums)

  taps_are : take (suc r.length) buffer ≡ taps_of left
  taps_are =
      ap₂ take (let n : suc r.length ≡ length (taps_of left) = omega (arith, said.size, length-taps left) in n) said.leaves
      ∙ take_at (taps_of left) _ _ refl

  pub held-register : (none : Bool) → Locatable s none words sums → Held s none words sums r.length buffer
  held-register none locatable =
      record {
        locatable = locatable;
        short = omega (arith, said.size, size-most s (declared_by words) sums locatable.shape);
        register = rw (taps_are, said.size) (generator_of left).register;
        zeros = said.leaves ∙ ap (λ (σ : List ℕ). σ ++ replicate (65 - length σ) 0) (sym taps_are);
      }

  pub located_so : is_shape s ≡ true → (before : Arrays) (f : List ℕ)
      → by_register s before words sums r.length (take (suc r.length) buffer) r.alone f ≡ from_sums s before words sums f
  located_so shape before f =
      rw (taps_are, said.size, said.alone)
      (ap (λ ts. first_of (refusing (shaped_job s before) f) ts (locates s before words left sums f))
      (same_tests s shape (declared_by words) (held_sequences s sums)))

-- ---- from the sums of a frame

pub from-frame : (s : Shape) (a : Arrays) (words new f : List ℕ) {o : Outcome} → o ≡ seen_from s a words new f → new ≡ held_sums s (as_read s (declared_by words) f)
    → o ≡ seen_from s a words (held_sums s (as_read s (declared_by words) f)) f
from-frame s a words new f e held = e ∙ ap (λ sums. seen_from s a words sums f) held
