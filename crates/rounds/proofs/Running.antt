-- The rounds on the arrays are those of Algorithm 4 on the sequences in the blocks: what holds when a step is made, and what it leaves.
use mathlib.Core.Path.{◌≡◌, refl, sym, ap, ap₂, subst, ◌∙◌}
use mathlib.Core.List.{List, []}
use Prim.Native.Nat.{ℕ, suc, ◌+◌, ◌-◌, ◌*◌, ◌≤◌, ◌<◌}
use native.Mathlib.Numerals.{add-one}
use native.Mathlib.Omega.{arith}
use lib.ListN.{length, get_or}
use Rattle.lists.proofs.Tabulated.{length-tabulate, get_d_tabulate}
use Rattle.register.proofs.Bounds.{Bounded, bounded-later, bounded-turn, bounded-rounds}
use Rattle.register.specs.Algorithm4.{Saved, State, step, turn, rounds}
use Rattle.discrepancy.specs.Discrepancies.{InReach, sequence_in}
use Rattle.register_step.proofs.Steps.{readable, step-made}
use Rattle.register_step.specs.Parts.{Parts, state_of, step_parts, Ready, Steppable}
use Rattle.rounds.specs.Rounds.{Running, Agree, Reached, sequences_in}
use Rattle.rounds.proofs.Agreement.{agree-step}

module _ (lengths : List ℕ) (k : ℕ) (blocks : List ℕ) where
  -- sequence h
  abbrev part : ℕ → List ℕ
  part h = sequence_in blocks h (get_or lengths h 0)

  pub length-sequences : length (sequences_in lengths k blocks) ≡ k
  length-sequences = length-tabulate k part

  pub sequence-at : (h : ℕ) → h < k → get_or (sequences_in lengths k blocks) h [] ≡ part h
  sequence-at h b = get_d_tabulate k part h [] b

  pub length_part : (h : ℕ) → length (part h) ≡ get_or lengths h 0
  unfolding sequence_in
  length_part h = length-tabulate (get_or lengths h 0) _

rounds-suc : (p N : ℕ) (ss : List (List ℕ)) (n : ℕ) → rounds p N ss (suc n) ≡ turn p N ss (suc n) (length ss) (rounds p N ss n)
unfolding rounds
rounds-suc p N ss n = refl

module _ {p N : ℕ} {lengths : List ℕ} {k : ℕ} {blocks : List ℕ} (r : Running p N lengths k blocks) where
  abbrev ss : List (List ℕ)
  ss = sequences_in lengths k blocks

  -- in round n + 1, when h sequences have had their step
  abbrev pub during : (n h : ℕ) → State
  during n h = turn p N ss (n + 1) h (rounds p N ss n)

  bounded : (n h : ℕ) → Bounded p N ss (n + 1) (during n h)
  bounded n h =
      bounded-turn p N ss r.two_or_more (n + 1) h (rounds p N ss n)
      (bounded-later p N ss r.two_or_more n (n + 1) (rounds p N ss n) (omega arith) (bounded-rounds p N ss r.two_or_more n))

  -- a register is no longer than the rounds that found it
  pub found_within : (n : ℕ) {x : Parts} → Reached p k (rounds p N ss n) x → x.length ≤ n
  unfolding state_of
  found_within n reached = omega (arith, reached.state.size, (bounded-rounds p N ss r.two_or_more n).size)

  pub positive : 0 < p
  positive = omega (arith, r.two_or_more)

  module _ {n h : ℕ} {x : Parts} (round : n < N) (more : h < k) (reached : Reached p k (during n h) x) where
    pub ready : Ready p N (part lengths k blocks h) (n + 1) h (state_of x)
    ready =
        let a = reached.state in
        let b = bounded n h in
        let v = a.saved h more in
        record {
          longest = r.longest;
          shorter = omega (arith, length_part lengths k blocks h, r.shorter h more);
          round = omega arith;
          sequence = omega (arith, r.count);
          size = rw a.size b.size;
          place = rw (ap (λ (w : Saved). w.place) v, ← sequence-at lengths k blocks h more) (b.place h);
          saved-size = subst (λ (w : Saved). w.size ≤ w.place) (sym v) (b.saved-size h);
          residues = λ i. rw a.taps (b.residues i);
        }

    pub in_reach : InReach p N x.length h (get_or lengths h 0) (n + 1) blocks
    unfolding state_of
    in_reach =
        let a = reached.state in
        record {
          longest = r.longest;
          shorter = r.shorter h more;
          grown = rw a.size (bounded n h).size;
          round = omega arith;
          sequence = omega (arith, r.count);
          below = λ asked i le.
              let place : h * 144 + (N - (n + 1) + i) ≡ h * 144 + (N - (n + 1)) + i = omega arith in
              rw (← place) (r.residues h more (N - (n + 1) + i) (omega (arith, r.shorter h more)));
        }

    pub steppable : Steppable p N h (get_or lengths h 0) (n + 1) blocks x
    unfolding state_of
    steppable =
        record {
          readable = readable positive ready reached.ended;
          reach = in_reach;
          place = rw (← length_part lengths k blocks h) ready.place;
        }

    pub stepped : Reached p k (during n (h + 1)) (step_parts p N (part lengths k blocks h) (n + 1) h x)
    unfolding turn
    stepped =
        let s = part lengths k blocks h in
        let made = step-made positive ready reached.ended in
        let agree : Agree k (step p N s (n + 1) h (state_of x)) (step p N s (n + 1) h (during n h)) =
        agree-step k p N s (n + 1) h (state_of x) (during n h) more reached.state
        in
        record {
          state = subst (λ (st : State). Agree k st (during n (h + 1))) (sym made.state) (rw (add-one h, sequence-at lengths k blocks h more) agree);
          ended = made.ended;
        }

  pub round-begins : (n : ℕ) {x : Parts} → Reached p k (rounds p N ss n) x → Reached p k (during n 0) x
  unfolding turn
  round-begins n reached = reached

  -- all k sequences have had their step
  pub round-ends : (n h : ℕ) {x : Parts} →
      h ≡ k → Reached p k (during n h) x → Reached p k (rounds p N ss (n + 1)) x
  round-ends n h {x} all = subst (λ (st : State). Reached p k st x) (ap (λ (m : ℕ). during n m) all ∙ sym whole)
    where
      whole : rounds p N ss (n + 1) ≡ during n k
      whole =
          ap (rounds p N ss) (add-one n) ∙ rounds-suc p N ss n
          ∙ ap₂ (λ (m j : ℕ). turn p N ss m j (rounds p N ss n)) (sym (add-one n)) (length-sequences lengths k blocks)

  pub all-run : (n m : ℕ) {x : Parts} → n ≡ m → Reached p k (rounds p N ss n) x → Reached p k (rounds p N ss m) x
  all-run n m {x} = subst (λ (j : ℕ). Reached p k (rounds p N ss j) x)
