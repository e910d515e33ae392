-- Searches in slices that share what counts pass the same test.
use mathlib.Core.Path.{◌≡◌, refl, sym, ap, subst, subst⁻¹, ◌∙◌}
use mathlib.Core.List.{List}
use Prim.Native.Nat.{ℕ, suc, ◌+◌, ◌-◌, ◌*◌, ◌≤◌, ◌<◌}
use native.Mathlib.Omega.{arith}
use lib.ListN.{length, get_or}
use Rattle.lists.proofs.Truth.{same_truth}
use Rattle.slices.specs.Same.{SameSynthesis}
use Rattle.slices.specs.Synthesis.{Synthesis, synthesis, all_rounds, rounds, steps, long}
use Rattle.slices.specs.Synthesis.{synthesis_sound}
use Rattle.slices.proofs.Tests.{Tested, tests_say}

symmetric : {x y : Synthesis} → SameSynthesis x y → SameSynthesis y x
symmetric {x} {y} s =
    record {
      counts = sym s.counts;
      lengths = sym s.lengths;
      symbols = λ h i b l. sym (s.symbols h i b (subst (λ (n : List ℕ). i < get_or n h 0) s.lengths l));
      places = sym s.places;
      sizes = sym s.sizes;
      discs = sym s.discs;
      quotients = sym s.quotients;
      taps = sym s.taps;
      saved = λ h i b l. sym (s.saved h i b (subst (λ (n : List ℕ). i ≤ get_or n h 0 + 8) s.sizes l));
      width = sym s.width;
      taps-width = ap length s.taps ∙ s.taps-width;
    }

-- all of x but symbols and what is saved
abbrev pub over : Synthesis → (symbols saved : List ℕ) → Synthesis
over x symbols saved = synthesis x.counts x.lengths symbols x.places x.sizes x.discs x.quotients x.taps saved

-- which is all that differs
is-over : {x y : Synthesis} → SameSynthesis x y → over x y.symbols y.saved ≡ y
is-over {x} {y} s = rw (s.counts, s.lengths, s.places, s.sizes, s.discs, s.quotients, s.taps) refl

pub by_over : (P : Synthesis → Synthesis → Type 0) → ((x : Synthesis) (symbols saved : List ℕ) → SameSynthesis x (over x symbols saved) →
    P x (over x symbols saved)) → {x y : Synthesis} → SameSynthesis x y → P x y
by_over P p {x} {y} s =
    subst (P x) (is-over s) (p x y.symbols y.saved (subst⁻¹ (SameSynthesis x) (is-over s) s))

module _ (k : ℕ) (few : k ≤ 8) where
  over-tested : (x : Synthesis) (symbols saved : List ℕ) → SameSynthesis x (over x symbols saved) → Tested k x → Tested k (over x symbols saved)
  over-tested x symbols saved s t =
      let c = t.counts in
      let v = t.saved in
      let below : steps x < 8 = omega (arith, c.step) in
      record {
        counts = record { few = c.few; round = c.round; step = c.step; grown = c.grown; shorter = c.shorter };
        saved =
            record {
              within = v.within;
              place = v.place;
              residue = v.residue;
              inverse = v.inverse;
              zeros = λ i b.
                  let j : ℕ = suc (get_or x.sizes (steps x) 0) + i in
                  let e : steps x * 144 + suc (get_or x.sizes (steps x) 0) + i ≡ steps x * 144 + j = omega arith in
                  subst⁻¹ (λ (n : ℕ). get_or saved n 0 ≡ 0) e
                  (sym (s.saved (steps x) j below (omega arith)) ∙ subst (λ (n : ℕ). get_or x.saved n 0 ≡ 0) e (v.zeros i b));
            };
        taps = record { first = t.taps.first; residues = t.taps.residues; zeros = t.taps.zeros };
        symbols = λ asked i b.
            let j : ℕ = all_rounds x - suc (rounds x) + i in
            let e : steps x * 144 + (all_rounds x - suc (rounds x)) + i ≡ steps x * 144 + j = omega arith in
            let near : j < long x = omega (arith, c.round, c.shorter (steps x) below) in
            subst⁻¹ (λ (n : ℕ). get_or symbols n 0 < 257) e
            (subst (λ (n : ℕ). n < 257) (s.symbols (steps x) j below near)
            (subst (λ (n : ℕ). get_or x.symbols n 0 < 257) e (t.symbols asked i b)));
      }

  pub same-sound : {x y : Synthesis} → SameSynthesis x y → synthesis_sound k x ≡ synthesis_sound k y
  same-sound {x} {y} s =
      same_truth _ _ (λ e. (tests_say k y).1 (carry s ((tests_say k x).0 e))) (λ e. (tests_say k x).1 (carry (symmetric s) ((tests_say k y).0 e)))
    where
      carry : {x y : Synthesis} → SameSynthesis x y → Tested k x → Tested k y
      carry = by_over (λ x y. Tested k x → Tested k y) over-tested
