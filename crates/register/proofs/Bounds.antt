-- How large the state of Algorithm 4 gets: after round n, or inside it, the register has at most n taps after the first, each a
-- residue, and what is saved was saved no later than in round n. So nothing that the code computes overflows.
use mathlib.Core.Path.{◌≡◌, refl, ap, ◌∙◌}
use mathlib.Core.Logic.{◌≢◌}
use mathlib.Core.List.{List, [], ◌∷◌}
use Prim.Native.Nat.{ℕ, zero, suc, ◌+◌, ◌-◌, ◌*◌, ◌≤◌, ◌<◌, max}
use native.Mathlib.Nat.{mod-lt}
use native.Mathlib.Omega.{arith}
use lib.Dec.{eqb}
use lib.ListN.{length, get_or}
use Rattle.lists.specs.Total.{total}
use Rattle.field.proofs.Coefficients.{length-reduced, reduced-residues}
use Rattle.register.specs.Algorithm4.{Saved, State, start, with_saved, step, turn, rounds}
use Rattle.register.specs.Register.{discrepancy}
use Rattle.register.specs.Sequences.{symbol}
use Rattle.register.proofs.Cases.{cond_cases, grown, stayed, saved-beside, changed_cases, step_cases}

-- the state in or after round n of N
pub record Bounded (p N : ℕ) (ss : List (List ℕ)) (n : ℕ) (st : State) : Type 0 where
  pub size : st.size ≤ n
  pub taps : length st.taps ≡ suc st.size
  pub residues : (i : ℕ) → get_or st.taps i 0 < p
  pub saved-size : (h : ℕ) → (st.saved h).size ≤ (st.saved h).place
  pub place : (h : ℕ) → (st.saved h).place ≤ max n (N - length (get_or ss h []))
  pub saved-taps : (h : ℕ) → length (st.saved h).taps ≡ suc (st.saved h).size

-- the one entry of a list, or the 0 past it
one_entry : (p a : ℕ) → a < p → (i : ℕ) → get_or (a ∷ []) i 0 < p
one_entry p a l zero = l
one_entry p a l (suc i) = omega arith

pub discrepancy-less : (p l : ℕ) (σ s : List ℕ) (j : ℕ) → 0 < p → discrepancy p l σ s j < p
unfolding discrepancy
discrepancy-less p l σ s j pos = mod-lt (total (suc l) (λ i. get_or σ i 0 * symbol s (j - i))) pos

-- what holds of what is put in and of what was there holds of all that is kept
pub with_saved-all : (P : Saved → Type 0) (saved : ℕ → Saved) (h : ℕ) (v : Saved) (g : ℕ) → P v → P (saved g) → P (with_saved saved h v g)
unfolding with_saved
with_saved-all P saved h v g new old = cond_cases P (eqb g h) v (saved g) (λ _. new) (λ _. old)

module _ (p N : ℕ) (ss : List (List ℕ)) (two : 2 ≤ p) where
  bounded-start : Bounded p N ss 0 (start N ss)
  unfolding start
  bounded-start =
      record {
        size = omega arith;
        taps = refl;
        residues = one_entry p 1 two;
        saved-size = λ h. omega arith;
        place = λ h. omega arith;
        saved-taps = λ h. refl;
      }

  -- the bounds of a round are within those of a later one
  pub bounded-later : (n m : ℕ) (st : State) → n ≤ m → Bounded p N ss n st → Bounded p N ss m st
  bounded-later n m st le b =
      record {
        size = omega arith;
        taps = b.taps;
        residues = b.residues;
        saved-size = b.saved-size;
        place = λ h. omega (arith, b.place h);
        saved-taps = b.saved-taps;
      }

  module _ (n h : ℕ) (st : State) (b : Bounded p N ss n st) where
    bounded-grown : (d : ℕ) → Bounded p N ss n (grown p n h d st)
    bounded-grown d =
        let v : Saved = record { place = n; size = st.size; disc = d; taps = st.taps } in
        record {
          size = omega (arith, b.saved-size h);
          taps = length-reduced p _ st.taps _ _ _;
          residues = reduced-residues p _ st.taps _ _ _ (omega arith);
          saved-size = λ g. with_saved-all (λ w. w.size ≤ w.place) st.saved h v g b.size (b.saved-size g);
          place = λ g. with_saved-all (λ w. w.place ≤ max n (N - length (get_or ss g []))) st.saved h v g (omega arith) (b.place g);
          saved-taps = λ g. with_saved-all (λ w. length w.taps ≡ suc w.size) st.saved h v g b.taps (b.saved-taps g);
        }

    bounded-stayed : (d : ℕ) → Bounded p N ss n (stayed p n h d st)
    bounded-stayed d =
        record {
          size = b.size;
          taps = length-reduced p _ st.taps _ _ _;
          residues = reduced-residues p _ st.taps _ _ _ (omega arith);
          saved-size = b.saved-size;
          place = b.place;
          saved-taps = b.saved-taps;
        }

    bounded-step : (s : List ℕ) → Bounded p N ss n (step p N s n h st)
    bounded-step s =
        let d : ℕ = discrepancy p st.size st.taps s (n + length s - N) in
        step_cases p N s n h st (Bounded p N ss n) (λ _. b) (λ _ _. b)
        (λ _ _. changed_cases p n h d st (Bounded p N ss n) (λ _. bounded-grown d) (λ _. bounded-stayed d))

  pub bounded-turn : (n h : ℕ) (st : State) → Bounded p N ss n st → Bounded p N ss n (turn p N ss n h st)
  unfolding turn
  bounded-turn n zero st b = b
  bounded-turn n (suc h) st b = bounded-step n h (turn p N ss n h st) (bounded-turn n h st b) (get_or ss h [])

  pub bounded-rounds : (n : ℕ) → Bounded p N ss n (rounds p N ss n)
  unfolding rounds
  bounded-rounds zero = bounded-start
  bounded-rounds (suc n) =
      bounded-turn (suc n) (length ss) (rounds p N ss n) (bounded-later n (suc n) (rounds p N ss n) (omega arith) (bounded-rounds n))

-- ---- inside a round

module _ (p N : ℕ) (ss : List (List ℕ)) (n : ℕ) where
  step-beside : (s : List ℕ) (h : ℕ) (st : State) (g : ℕ) → g ≢ h → (step p N s n h st).saved g ≡ st.saved g
  step-beside s h st g other =
      let d : ℕ = discrepancy p st.size st.taps s (n + length s - N) in
      let Same : State → Type 0 = λ t. t.saved g ≡ st.saved g in
      step_cases p N s n h st Same (λ _. refl) (λ _ _. refl)
      (λ _ _. changed_cases p n h d st Same (λ _. saved-beside st.saved h _ g other) (λ _. refl))

  -- the steps before that of sequence g leave what is saved for g
  pub not_yet : (h : ℕ) (st : State) (g : ℕ) → h ≤ g → (turn p N ss n h st).saved g ≡ st.saved g
  unfolding turn
  not_yet zero st g le = refl
  not_yet (suc h) st g le =
      step-beside (get_or ss h []) h (turn p N ss n h st) g (λ e. let z : ⊥ = omega (arith, e) in z) ∙ not_yet h st g (omega arith)

-- so the place that the step of sequence h finds in round n + 1 is that of a round before, or the first one
pub place-before : (p N : ℕ) (ss : List (List ℕ)) → 2 ≤ p → (n h : ℕ) →
    ((turn p N ss (suc n) h (rounds p N ss n)).saved h).place ≤ max n (N - length (get_or ss h []))
place-before p N ss two n h =
    rw (ap (λ (v : Saved). v.place) (not_yet p N ss (suc n) h (rounds p N ss n) h (omega arith))) ((bounded-rounds p N ss two n).place h)
