-- Arrays that hold a state of Algorithm 4 pass the test, as long as a step is left.
use mathlib.Core.Path.{◌≡◌, sym, ap, subst, ◌∙◌}
use mathlib.Core.Bool.{true}
use mathlib.Core.List.{List, []}
use Prim.Native.Nat.{ℕ, suc, ◌+◌, ◌*◌, ◌%◌, ◌<◌}
use native.Mathlib.Nat.{mod-eq_of_lt, mod-lt, mul_comm, one-mul}
use native.Mathlib.Numerals.{add-one}
use native.Mathlib.Omega.{arith}
use lib.ListN.{length, get_or, take}
use lib.Seq.{get_or-take}
use Rattle.field.proofs.Fermat.{times-inverse}
use Rattle.field.proofs.Prime257.{prime_257}
use Rattle.field.proofs.Remainders.{mod-mul-mod}
use Rattle.field.specs.Residue.{inverse, quotient}
use Rattle.register.proofs.Bounds.{place-before}
use Rattle.register.proofs.Inside.{Sound, sound-inside}
use Rattle.register.specs.Algorithm4.{Saved}
use Rattle.register.specs.Sequences.{longest, ordered}
use Rattle.register_step.specs.Parts.{Steppable, state_of}
use Rattle.rounds.proofs.Running.{length_part, sequence-at, steppable}
use Rattle.slices.specs.Kept.{Kept, state_at}
use Rattle.slices.specs.Synthesis.{Synthesis, rounds, steps, size, long, parts_in, synthesis_sound}
use Rattle.slices.proofs.Advancing.{kept-rounds, kept-round, kept_step, kept-reached}
use Rattle.slices.proofs.Tests.{Counts, SavedNext, Taps, Summed, tests_say}

-- 2^16 over d, which is the inverse of d, as 2^16 is 1
quotient-inverse : (d : ℕ) → 0 < d → d < 257 → (quotient 257 (65536 % 257) d * d) % 257 ≡ 1
quotient-inverse d some less =
    mod-mul-mod (1 * inverse 257 d) 257 d
    ∙ ap (λ (n : ℕ). n % 257) (ap (λ (n : ℕ). n * d) (one-mul (inverse 257 d)) ∙ mul_comm (inverse 257 d) d)
    ∙ times-inverse 257 prime_257 d (λ e. let z : ⊥ = omega (arith, sym (mod-eq_of_lt less) ∙ e) in z)

module _ {ss : List (List ℕ)} {x : Synthesis} (kept : Kept ss (rounds x) (steps x) x) (round : rounds x < longest ss) (more : steps x < length ss) where
  can : Steppable 257 (longest ss) (steps x) (long x) (rounds x + 1) x.symbols (parts_in x)
  can = steppable kept.running round more (kept-reached kept)

  -- what Algorithm 4 has saved for the sequence of the step, beside what the arrays have
  saved-is : (state_of (parts_in x)).saved (steps x) ≡ (state_at ss (rounds x) (steps x)).saved (steps x)
  saved-is = kept.reached.state.saved (steps x) more

  inside : Sound 257 (state_at ss (rounds x) (steps x))
  inside = sound-inside 257 (longest ss) (ordered ss) (omega arith) (rounds x) (steps x)

  counts : Counts (length ss) x
  counts =
      record {
        few = rw (kept-rounds kept) kept.sliceable.short;
        round = rw (kept-rounds kept) round;
        step = more;
        grown = omega (arith, can.reach.grown);
        shorter = λ h b. rw (kept-rounds kept) (kept.shorter h b);
      }

  long-is : length (get_or (ordered ss) (steps x) []) ≡ long x
  long-is =
      ap (λ (l : List (List ℕ)). length (get_or l (steps x) [])) (sym kept.sequences)
      ∙ ap length (sequence-at x.lengths (length ss) x.symbols (steps x) more)
      ∙ length_part x.lengths (length ss) x.symbols (steps x)

  saved : SavedNext x
  unfolding state_of
  saved =
      let r = can.readable in
      let h : ℕ = steps x in
      let disc : get_or x.discs h 0 ≡ ((state_at ss (rounds x) h).saved h).disc = ap (λ (v : Saved). v.disc) saved-is in
      let place : get_or x.places h 0 ≡ ((state_at ss (rounds x) h).saved h).place = ap (λ (v : Saved). v.place) saved-is in
      record {
        within = r.saved-size;
        place =
            rw (place, ← long-is, kept-rounds kept) (place-before 257 (longest ss) (ordered ss) (omega arith) (rounds x) (steps x));
        residue = rw r.quotient (mod-lt (1 * inverse 257 (get_or x.discs h 0)) (let p : 0 < 257 = omega arith in p));
        inverse =
            rw r.quotient (quotient-inverse (get_or x.discs h 0) (omega (arith, disc, inside.some h)) (omega (arith, disc, inside.residue h)));
        zeros = λ i b.
            let m : ℕ = get_or x.sizes h 0 in
            let from : h * 144 + suc m + i ≡ h * 144 + (suc m + i) = omega arith in
            ap (λ (j : ℕ). get_or x.saved j 0) from ∙ r.saved-zeros (suc m + i) (omega arith) (omega arith);
      }

  taps : Taps x
  unfolding state_of
  taps =
      let own : take (suc (size x)) x.taps ≡ (state_at ss (rounds x) (steps x)).taps = kept.reached.state.taps in
      record {
        first = sym (get_or-take (suc (size x)) x.taps 0 0 (omega arith)) ∙ ap (λ (l : List ℕ). get_or l 0 0) own ∙ inside.first;
        residues = λ i b. can.readable.residues i;
        zeros = λ i b. kept.reached.ended.zeros (suc (size x) + i) (omega arith);
      }

  summed : Summed x
  summed = rw (kept-rounds kept, ← add-one (rounds x)) (λ asked i b. can.reach.below asked i (omega arith))

  now-sound : synthesis_sound (length ss) x ≡ true
  now-sound = (tests_say (length ss) x).1 (record { counts = counts; saved = saved; taps = taps; symbols = summed })

pub kept-sound : {ss : List (List ℕ)} {n h : ℕ} {x : Synthesis} → Kept ss n h x → n < longest ss → h < length ss → synthesis_sound (length ss) x ≡ true
kept-sound {ss} {n} {h} {x} kept round more =
    now-sound (subst (λ (m : ℕ). Kept ss m (steps x) x) (sym (kept-round kept)) (subst (λ (g : ℕ). Kept ss n g x) (sym (kept_step kept)) kept))
    (omega (arith, kept-round kept)) (omega (arith, kept_step kept))
