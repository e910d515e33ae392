-- Also inside a round the first tap of the register is 1, as a register is changed by one moved by a step at least, and no discrepancy that is saved is 0.
use mathlib.Core.Path.{◌≡◌, refl, ◌∙◌}
use mathlib.Core.List.{List, []}
use Prim.Native.Nat.{ℕ, zero, suc, ◌+◌, ◌-◌, ◌≤◌, ◌<◌}
use native.Mathlib.Omega.{arith}
use lib.ListN.{length, get_or}
use Rattle.field.proofs.Coefficients.{reduced-first}
use Rattle.field.specs.Residue.{quotient}
use Rattle.register.specs.Algorithm4.{Saved, State, start, step, turn, rounds}
use Rattle.register.specs.Register.{discrepancy}
use Rattle.register.proofs.Bounds.{discrepancy-less, with_saved-all, place-before}
use Rattle.register.proofs.Cases.{changed_taps, changed_cases, step_cases}

pub record Sound (p : ℕ) (st : State) : Type 0 where
  pub first : get_or st.taps 0 0 ≡ 1
  pub some : (g : ℕ) → 0 < (st.saved g).disc
  pub residue : (g : ℕ) → (st.saved g).disc < p

module _ (p N : ℕ) (ss : List (List ℕ)) (two : 2 ≤ p) where
  sound-start : Sound p (start N ss)
  unfolding start
  sound-start = record { first = refl; some = λ g. omega arith; residue = λ g. omega arith }

  module _ (s : List ℕ) (n h : ℕ) (st : State) (b : Sound p st) (place : st.size + (N - length s) < n → (st.saved h).place < n) where
    kept : st.size + (N - length s) < n → (d l : ℕ) → get_or (changed_taps p n h d st l) 0 0 ≡ 1
    kept asked d l =
        reduced-first p l st.taps (quotient p d (st.saved h).disc) (n - (st.saved h).place) (st.saved h).taps (omega (arith, place asked))
        (omega (arith, b.first))
        ∙ b.first

    sound-step : Sound p (step p N s n h st)
    sound-step =
        let d : ℕ = discrepancy p st.size st.taps s (n + length s - N) in
        let v : Saved = record { place = n; size = st.size; disc = d; taps = st.taps } in
        step_cases p N s n h st (Sound p) (λ _. b) (λ _ _. b)
        (λ asked not-zero.
        changed_cases p n h d st (Sound p)
        (λ _. record {
          first = kept asked d _;
          some = λ g. with_saved-all (λ w. 0 < w.disc) st.saved h v g (omega (arith, not-zero)) (b.some g);
          residue = λ g.
              with_saved-all (λ w. w.disc < p) st.saved h v g (discrepancy-less p st.size st.taps s (n + length s - N) (omega arith)) (b.residue g);
        })
        (λ _. record { first = kept asked d _; some = b.some; residue = b.residue }))

  sound-turn : (n h : ℕ) → Sound p (rounds p N ss n) → Sound p (turn p N ss (suc n) h (rounds p N ss n))
  unfolding turn
  sound-turn n zero b = b
  sound-turn n (suc h) b =
      sound-step (get_or ss h []) (suc n) h (turn p N ss (suc n) h (rounds p N ss n)) (sound-turn n h b) (λ asked. omega (arith, place-before p N ss two n h))

  sound-rounds : (n : ℕ) → Sound p (rounds p N ss n)
  unfolding rounds
  sound-rounds zero = sound-start
  sound-rounds (suc n) = sound-turn n (length ss) (sound-rounds n)

  -- in round n + 1, when h sequences have had their step
  pub sound-inside : (n h : ℕ) → Sound p (turn p N ss (suc n) h (rounds p N ss n))
  sound-inside n h = sound-turn n h (sound-rounds n)
