-- What a step leaves of arrays that pass the test is a register that can be given out, whoever wrote the arrays: where something is asked for, the place saved
-- for the sequence is that of a round before, so the register is changed by one that is moved, and its first tap stays 1.
use mathlib.Core.Path.{◌≡◌, refl, ◌∙◌}
use mathlib.Core.Bool.{true}
use mathlib.Core.List.{List}
use Prim.Native.Nat.{ℕ, suc, ◌+◌, ◌-◌, ◌≤◌, ◌<◌}
use native.Mathlib.Omega.{arith}
use lib.Dec.{ltb, eqb}
use lib.ListN.{get_or, take}
use borrow.Author.Tests.{eqb-false}
use Rattle.field.proofs.Coefficients.{reduced-first, reduced-residues}
use Rattle.field.specs.Residue.{quotient}
use Rattle.register.proofs.Cases.{cond_cases}
use Rattle.discrepancy.specs.Discrepancies.{sequence_in, due_at}
use Rattle.reduction.specs.Reductions.{block}
use Rattle.register_step.proofs.Steps.{asked}
use Rattle.register_step.specs.Parts.{Parts, reduced_taps, stayed_parts, grown_parts, changed_parts, step_parts}
use Rattle.rounds.proofs.Running.{length_part}
use Rattle.slices.specs.Synthesis.{Synthesis, all_rounds, rounds, steps, size, long, parts_in, synthesis_sound, advanced}
use Rattle.slices.proofs.Advancing.{next}
use Rattle.slices.proofs.Tests.{Tested, tests_say}

pub record Register (y : Parts) : Type 0 where
  pub first : get_or y.taps 0 0 ≡ 1
  pub residues : (i : ℕ) → i < 144 → get_or y.taps i 0 < 257
  pub short : y.length ≤ 64

module _ (k : ℕ) (x : Synthesis) (sound : synthesis_sound k x ≡ true) where
  tested : Tested k x
  tested = (tests_say k x).0 sound

  abbrev s : List ℕ
  s = sequence_in x.symbols (steps x) (long x)

  abbrev d : ℕ
  d = due_at 257 (all_rounds x) (size x) x.taps s (suc (rounds x))

  place-less : (d ≡ 0 → ⊥) → get_or x.places (steps x) 0 < suc (rounds x)
  place-less some =
      let late = asked 257 (all_rounds x) (size x) x.taps s (suc (rounds x)) refl some in
      omega (arith, late, tested.saved.place, length_part x.lengths k x.symbols (steps x))

  module _ (some : d ≡ 0 → ⊥) where
    now : List ℕ
    now = reduced_taps 257 (suc (rounds x)) (steps x) d (parts_in x)

    now-first : get_or now 0 0 ≡ 1
    unfolding now
    now-first =
        reduced-first 257 143 x.taps (quotient 257 d (get_or x.discs (steps x) 0)) (suc (rounds x) - get_or x.places (steps x) 0)
        (take (suc (get_or x.sizes (steps x) 0)) (block (steps x) x.saved)) (omega (arith, place-less some)) (omega (arith, tested.taps.first))
        ∙ tested.taps.first

    now-residues : (i : ℕ) → get_or now i 0 < 257
    unfolding now
    now-residues =
        reduced-residues 257 143 x.taps (quotient 257 d (get_or x.discs (steps x) 0)) (suc (rounds x) - get_or x.places (steps x) 0)
        (take (suc (get_or x.sizes (steps x) 0)) (block (steps x) x.saved)) (omega arith)

    changed-leaves : Register (changed_parts 257 (suc (rounds x)) (steps x) d (parts_in x))
    unfolding changed_parts now
    changed-leaves =
        let c = tested.counts in
        cond_cases Register (ltb (get_or x.places (steps x) 0 + size x) (suc (rounds x) + get_or x.sizes (steps x) 0))
        (grown_parts 257 (suc (rounds x)) (steps x) d (parts_in x)) (stayed_parts 257 (suc (rounds x)) (steps x) d (parts_in x))
        (λ _. record {
          first = now-first;
          residues = λ i _. now-residues i;
          short = omega (arith, tested.saved.within, c.few, c.round);
        })
        (λ _. record { first = now-first; residues = λ i _. now-residues i; short = omega (arith, c.few, c.round, c.grown) })

  next-leaves : Register (next x)
  unfolding step_parts
  next-leaves =
      let c = tested.counts in
      cond_cases Register (eqb d 0) (parts_in x) (changed_parts 257 (suc (rounds x)) (steps x) d (parts_in x))
      (λ _. record { first = tested.taps.first; residues = tested.taps.residues; short = omega (arith, c.few, c.round, c.grown) })
      (λ some. changed-leaves (eqb-false d 0 some))

  pub sound-leaves : Register (parts_in (advanced k x))
  unfolding advanced
  sound-leaves =
      cond_cases (λ (z : Synthesis). Register (parts_in z)) (ltb (suc (steps x)) k) _ _ (λ _. next-leaves) (λ _. next-leaves)
