-- A register that answers all that is still asked for is not changed any more: a step that finds no discrepancy leaves the state, and so do the rounds in which
-- each step finds none.
use mathlib.Core.Path.{◌≡◌, refl, ap, ◌∙◌}
use mathlib.Core.List.{List, []}
use Prim.Native.Nat.{ℕ, zero, suc, ◌+◌, ◌-◌, ◌≤◌, ◌<◌}
use native.Mathlib.Decide.{ℕ_discrete}
use native.Mathlib.Nat.{le_refl}
use native.Mathlib.Omega.{arith}
use lib.ListN.{length, get_or}
use Rattle.register.specs.Algorithm4.{State, step, turn, rounds}
use Rattle.register.specs.Register.{discrepancy}
use Rattle.register.proofs.Cases.{step_cases}

module _ (p N : ℕ) where
  -- what is asked for at (n, h), s being sequence h, has the discrepancy 0
  abbrev Rests : (s : List ℕ) (n : ℕ) → State → Type 0
  Rests s n st = st.size + (N - length s) < n → discrepancy p st.size st.taps s (n + length s - N) ≡ 0

  step-rests : (s : List ℕ) (n h : ℕ) (st : State) → Rests s n st → step p N s n h st ≡ st
  step-rests s n h st rests = step_cases p N s n h st (λ t. t ≡ st) (λ _. refl) (λ _ _. refl) (λ asked some. absurd (some (rests asked)))

  module _ (ss : List (List ℕ)) where
    turn-rests : (n h : ℕ) (st : State) → ((g : ℕ) → g < h → Rests (get_or ss g []) n st) → turn p N ss n h st ≡ st
    unfolding turn
    turn-rests n zero st rests = refl
    turn-rests n (suc h) st rests =
        ap (step p N (get_or ss h []) n h) (turn-rests n h st (λ g l. rests g (omega arith))) ∙ step-rests (get_or ss h []) n h st (rests h (omega arith))

    -- where each step of the rounds after round n finds nothing, up to round m, what was found after round n stays
    pub settled : (n m : ℕ) → n ≤ m →
        ((k : ℕ) → n < k → k ≤ m → (h : ℕ) → h < length ss → Rests (get_or ss h []) k (rounds p N ss n)) → rounds p N ss m ≡ rounds p N ss n
    unfolding rounds
    settled n zero le rests = ap (rounds p N ss) (let e : 0 ≡ n = omega arith in e)
    settled n (suc m) le rests = pick (ℕ_discrete n (suc m)) (settled n m)
      where
        pick : Dec (n ≡ suc m) →
            (n ≤ m → ((k : ℕ) → n < k → k ≤ m → (h : ℕ) → h < length ss → Rests (get_or ss h []) k (rounds p N ss n)) → rounds p N ss m ≡ rounds p N ss n) →
            rounds p N ss (suc m) ≡ rounds p N ss n
        pick (yes e) before = ap (rounds p N ss) (let f : suc m ≡ n = omega arith in f)
        pick (no e) before =
            ap (turn p N ss (suc m) (length ss)) (before (omega arith) (λ k a b. rests k a (omega arith)))
            ∙ turn-rests (suc m) (length ss) (rounds p N ss n) (rests (suc m) (omega arith) (le_refl (suc m)))
