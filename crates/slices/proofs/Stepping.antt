-- Arrays that pass the test can make a step, whoever wrote them.
use mathlib.Core.Path.{◌≡◌, sym, ap, ◌∙◌}
use mathlib.Core.Bool.{true}
use Prim.Native.Nat.{ℕ, suc, ◌+◌, ◌-◌, ◌*◌, ◌%◌, ◌≤◌, ◌<◌}
use native.Mathlib.Nat.{mod-eq_of_lt, mul_comm, one-mul}
use native.Mathlib.Numerals.{add-one}
use native.Mathlib.Omega.{arith}
use lib.ListN.{length, get_or}
use Rattle.field.proofs.Coefficients.{residues-past}
use Rattle.field.proofs.Euclid.{cancel}
use Rattle.field.proofs.Fermat.{times-inverse}
use Rattle.field.proofs.Prime257.{prime_257}
use Rattle.field.proofs.Remainders.{mod-mul-zero}
use Rattle.field.specs.Residue.{inverse, quotient}
use Rattle.register_step.specs.Parts.{Readable, Steppable}
use Rattle.slices.specs.Synthesis.{Synthesis, all_rounds, rounds, steps, size, long, parts_in, synthesis_sound}
use Rattle.slices.proofs.Tests.{Tested, tests_say}

-- a residue whose product with d is 1 is the inverse of d, which is 2^16 over d, as 2^16 is 1
inverse-is : (q d : ℕ) → q < 257 → (q * d) % 257 ≡ 1 → q ≡ quotient 257 (65536 % 257) d
inverse-is q d less one =
    let some : d % 257 ≡ 0 → ⊥ = λ zero. let z : ⊥ = omega (arith, one, mod-mul-zero q d 257 zero) in z in
    let same = cancel 257 prime_257 d q (inverse 257 d) some (ap (λ (n : ℕ). n % 257) (mul_comm d q) ∙ one ∙ sym (times-inverse 257 prime_257 d some)) in
    sym (mod-eq_of_lt less) ∙ same ∙ ap (λ (n : ℕ). n % 257) (sym (one-mul (inverse 257 d)))

module _ (k : ℕ) (x : Synthesis) (few : k ≤ 8) (sound : synthesis_sound k x ≡ true) where
  tested : Tested k x
  tested = (tests_say k x).0 sound

  pub rounds-few : all_rounds x ≤ 64
  rounds-few = tested.counts.few

  pub rounds-left : rounds x < all_rounds x
  rounds-left = tested.counts.round

  pub steps-left : steps x < k
  steps-left = tested.counts.step

  pub size-grown : size x ≤ suc (rounds x)
  size-grown = tested.counts.grown

  long-within : long x ≤ all_rounds x
  long-within = tested.counts.shorter (steps x) (omega (arith, steps-left))

  module _ (width : length x.taps ≡ 144) (saved-width : length x.saved ≡ 1152) where
    readable : Readable 257 (steps x) (parts_in x)
    readable =
        let s = tested.saved in
        let t = tested.taps in
        record {
          sequence = omega (arith, steps-left);
          width = width;
          saved-width = saved-width;
          residues = residues-past 257 x.taps (omega arith) (λ i b. t.residues i (omega arith));
          zeros = λ i past near.
              let from : suc (size x) + (i - suc (size x)) ≡ i = omega arith in
              ap (λ (j : ℕ). get_or x.taps j 0) (sym from) ∙ t.zeros (i - suc (size x)) (omega arith);
          saved-size = s.within;
          saved-zeros = λ i past near.
              let m : ℕ = suc (get_or x.sizes (steps x) 0) in
              let from : steps x * 144 + m + (i - m) ≡ steps x * 144 + i = omega arith in
              ap (λ (j : ℕ). get_or x.saved j 0) (sym from) ∙ s.zeros (i - m) (omega arith);
          quotient = inverse-is _ _ s.residue s.inverse;
        }

    pub sound-steppable : Steppable 257 (all_rounds x) (steps x) (long x) (suc (rounds x)) x.symbols (parts_in x)
    sound-steppable =
        record {
          readable = readable;
          reach =
              record {
                longest = omega (arith, rounds-few);
                shorter = long-within;
                grown = size-grown;
                round = rounds-left;
                sequence = omega (arith, steps-left);
                below = λ asked i le. tested.symbols asked i (omega arith);
              };
          place = omega (arith, tested.saved.place);
        }

    -- the same as the code counts
    pub sound-steppable-one : Steppable 257 (all_rounds x) (steps x) (long x) (rounds x + 1) x.symbols (parts_in x)
    sound-steppable-one = rw (add-one (rounds x)) sound-steppable
