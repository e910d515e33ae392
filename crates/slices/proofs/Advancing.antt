-- A step further on arrays that hold a state of Algorithm 4 makes them hold the next one.
use mathlib.Core.Path.{◌≡◌, refl, sym, ap, ap₂, subst, ◌∙◌}
use mathlib.Core.List.{List, [], ◌∷◌}
use Prim.Native.Nat.{ℕ, suc, ◌+◌, ◌<◌}
use native.Mathlib.Numerals.{add-one}
use native.Mathlib.Omega.{arith}
use lib.ListN.{length, get_or}
use borrow.Author.Tests.{lt-ltb, le-ltb}
use Rattle.register.proofs.Ordering.{length-ordered}
use Rattle.register.specs.Algorithm4.{State, turn, rounds}
use Rattle.register.specs.Sequences.{longest, ordered}
use Rattle.discrepancy.specs.Discrepancies.{sequence_in}
use Rattle.register_step.specs.Parts.{Parts, state_of, step_parts}
use Rattle.rounds.proofs.Running.{during, stepped}
use Rattle.rounds.specs.Rounds.{Reached}
use Rattle.slices.specs.Kept.{Kept, state_at}
use Rattle.slices.specs.Synthesis.{Synthesis, all_rounds, rounds as finished, steps, found, long, parts_in, with_parts, advanced}

-- the parts after the next step
abbrev pub next : Synthesis → Parts
next x = step_parts 257 (all_rounds x) (sequence_in x.symbols (steps x) (long x)) (suc (finished x)) (steps x) (parts_in x)

round_whole : (ss : List (List ℕ)) (n : ℕ) → state_at ss n (length ss) ≡ rounds 257 (longest ss) (ordered ss) (suc n)
unfolding rounds
round_whole ss n =
    ap (λ (h : ℕ). turn 257 (longest ss) (ordered ss) (suc n) h (rounds 257 (longest ss) (ordered ss) n)) (sym (length-ordered ss))

pub round-next : (ss : List (List ℕ)) (n : ℕ) → state_at ss n 0 ≡ rounds 257 (longest ss) (ordered ss) n
unfolding turn
round-next ss n = refl

module _ {ss : List (List ℕ)} {n h : ℕ} {x : Synthesis} (kept : Kept ss n h x) where
  pub kept-rounds : all_rounds x ≡ longest ss
  kept-rounds = ap (λ (l : List ℕ). get_or l 0 0) kept.counts

  pub kept-round : finished x ≡ n
  kept-round = ap (λ (l : List ℕ). get_or l 1 0) kept.counts

  pub kept_step : steps x ≡ h
  kept_step = ap (λ (l : List ℕ). get_or l 2 0) kept.counts

  pub kept-found : found x ≡ (rounds 257 (longest ss) (ordered ss) n).size
  kept-found = ap (λ (l : List ℕ). get_or l 3 0) kept.counts

  -- with other parts, which hold another state
  with_parts_lem : {m n' g h' l : ℕ} (y : Parts) → n' ≡ m → h' ≡ g → l ≡ (rounds 257 (longest ss) (ordered ss) m).size →
      Reached 257 (length ss) (state_at ss m g) y → Kept ss m g (with_parts x n' h' l y)
  with_parts_lem y round step size reached =
      record {
        sliceable = kept.sliceable;
        counts = λ i. kept-rounds i ∷ round i ∷ step i ∷ size i ∷ y.length ∷ [];
        shorter = kept.shorter;
        running = kept.running;
        sequences = kept.sequences;
        reached = reached;
      }

  -- the state as the laws of the rounds name it
  pub kept-reached : Reached 257 (length ss) (during kept.running n h) (parts_in x)
  kept-reached =
      subst (λ (st : State). Reached 257 (length ss) st (parts_in x))
      (sym (ap₂ (λ (m : ℕ) (l : List (List ℕ)). turn 257 (longest ss) l m h (rounds 257 (longest ss) l n)) (add-one n) kept.sequences)) kept.reached

  next-is : step_parts 257 (longest ss) (sequence_in x.symbols h (get_or x.lengths h 0)) (n + 1) h (parts_in x) ≡ next x
  next-is =
      ap (λ (m : ℕ). step_parts 257 (longest ss) (sequence_in x.symbols h (get_or x.lengths h 0)) m h (parts_in x)) (add-one n)
      ∙ sym (λ i.
      step_parts 257 (kept-rounds i) (sequence_in x.symbols (kept_step i) (get_or x.lengths (kept_step i) 0)) (suc (kept-round i)) (kept_step i) (parts_in x))

  module _ (round : n < longest ss) where
    reached-next : h < length ss → Reached 257 (length ss) (state_at ss n (suc h)) (next x)
    reached-next more =
        let at : during kept.running n (h + 1) ≡ state_at ss n (suc h) =
        λ i. turn 257 (longest ss) (kept.sequences i) (add-one n i) (add-one h i) (rounds 257 (longest ss) (kept.sequences i) n)
        in
        subst (λ (st : State). Reached 257 (length ss) st (next x)) at
        (subst (Reached 257 (length ss) (during kept.running n (h + 1))) next-is (stepped kept.running round more kept-reached))

    -- sequences are left in the round
    pub advanced-within : suc h < length ss → Kept ss n (suc h) (advanced (length ss) x)
    unfolding advanced
    advanced-within more =
        rw (lt-ltb (suc (steps x)) (length ss) (omega (arith, kept_step)))
        (with_parts_lem (next x) kept-round (ap suc kept_step) kept-found (reached-next (omega arith)))

    -- the last step of a round
    pub advanced-round : suc h ≡ length ss → Kept ss (suc n) 0 (advanced (length ss) x)
    unfolding advanced state_of
    advanced-round last =
        let whole = ap (state_at ss n) last ∙ round_whole ss n in
        let reached = reached-next (omega arith) in
        rw (le-ltb (suc (steps x)) (length ss) (omega (arith, kept_step)))
        (with_parts_lem (next x) (ap suc kept-round) refl (reached.state.size ∙ ap (λ (st : State). st.size) whole)
        (subst (λ (st : State). Reached 257 (length ss) st (next x)) (whole ∙ sym (round-next ss (suc n))) reached))
