-- What the tests of the arrays say: each passes where, and only where, what it is named for holds.
use mathlib.Core.Path.{◌≡◌, refl}
use mathlib.Core.Logic.{◌↔◌}
use mathlib.Core.Bool.{Bool, true, false, ◌&&◌, ◌||◌, and-eq-true_iff, true≢false}
use Prim.Native.Nat.{ℕ, suc, ◌+◌, ◌-◌, ◌*◌, ◌%◌, ◌≤◌, ◌<◌, max}
use lib.Dec.{leb, ltb, eqb}
use lib.ListN.{get_or}
use borrow.Author.Tests.{ltb-true, leb-true, leb-false, eqb-true, lt-ltb, le-leb, lt-leb, eq-eqb}
use Rattle.lists.proofs.Tabulated.{every-at, every_of}
use Rattle.lists.specs.Tabulate.{every}
use Rattle.slices.specs.Synthesis.{
  Synthesis,
  all_rounds,
  rounds,
  steps,
  size,
  long,
  counts_sound,
  saved_sound,
  taps_sound,
  symbols_sound,
  synthesis_sound,
}

-- the numbers are in their ranges
pub record Counts (k : ℕ) (x : Synthesis) : Type 0 where
  pub few : all_rounds x ≤ 64
  pub round : rounds x < all_rounds x
  pub step : steps x < k
  pub grown : size x ≤ suc (rounds x)
  pub shorter : (h : ℕ) → h < 8 → get_or x.lengths h 0 ≤ all_rounds x

-- what is saved for the sequence of the next step
pub record SavedNext (x : Synthesis) : Type 0 where
  pub within : get_or x.sizes (steps x) 0 ≤ get_or x.places (steps x) 0
  pub place : get_or x.places (steps x) 0 ≤ max (rounds x) (all_rounds x - long x)
  pub residue : get_or x.quotients (steps x) 0 < 257
  pub inverse : (get_or x.quotients (steps x) 0 * get_or x.discs (steps x) 0) % 257 ≡ 1
  pub zeros : (i : ℕ) → i < 8 → get_or x.saved (steps x * 144 + suc (get_or x.sizes (steps x) 0) + i) 0 ≡ 0

-- the register
pub record Taps (x : Synthesis) : Type 0 where
  pub first : get_or x.taps 0 0 ≡ 1
  pub residues : (i : ℕ) → i < 144 → get_or x.taps i 0 < 257
  pub zeros : (i : ℕ) → i < 8 → get_or x.taps (suc (size x) + i) 0 ≡ 0

-- where something is asked for at the next step, what it sums are residues
abbrev pub Summed : Synthesis → Type 0
Summed x =
    size x + (all_rounds x - long x) < suc (rounds x) → (i : ℕ) → i < suc (size x) →
    get_or x.symbols (steps x * 144 + (all_rounds x - suc (rounds x)) + i) 0 < 257

both : (a b : Bool) → (a && b) ≡ true → (a ≡ true) × (b ≡ true)
both a b = (and-eq-true_iff a b).0

and : (a b : Bool) → a ≡ true → b ≡ true → (a && b) ≡ true
and a b l r = (and-eq-true_iff a b).1 (l, r)

module _ (k : ℕ) (x : Synthesis) where
  pub counts_say : counts_sound k x ≡ true ↔ Counts k x
  unfolding counts_sound
  counts_say = (
    λ e.
        let (few, e₁) = both _ _ e in
        let (round, e₂) = both _ _ e₁ in
        let (step, e₃) = both _ _ e₂ in
        let (grown, all) = both _ _ e₃ in
        record {
          few = leb-true _ _ few;
          round = ltb-true _ _ round;
          step = ltb-true _ _ step;
          grown = leb-true _ _ grown;
          shorter = λ h b. leb-true _ _ (every-at 8 _ all h b);
        },
    λ c.
        and _ _ (le-leb _ _ c.few)
        (and _ _ (lt-ltb _ _ c.round)
        (and _ _ (lt-ltb _ _ c.step) (and _ _ (le-leb _ _ c.grown) (every_of 8 _ (λ h b. le-leb _ _ (c.shorter h b)))))),
  )

module _ (x : Synthesis) where
  saved-says : saved_sound x ≡ true ↔ SavedNext x
  unfolding saved_sound
  saved-says = (
    λ e.
        let (within, e₁) = both _ _ e in
        let (place, e₂) = both _ _ e₁ in
        let (residue, e₃) = both _ _ e₂ in
        let (inverse, all) = both _ _ e₃ in
        record {
          within = leb-true _ _ within;
          place = leb-true _ _ place;
          residue = ltb-true _ _ residue;
          inverse = eqb-true _ _ inverse;
          zeros = λ i b. eqb-true _ _ (every-at 8 _ all i b);
        },
    λ s.
        and _ _ (le-leb _ _ s.within)
        (and _ _ (le-leb _ _ s.place)
        (and _ _ (lt-ltb _ _ s.residue) (and _ _ (eq-eqb _ _ s.inverse) (every_of 8 _ (λ i b. eq-eqb _ _ (s.zeros i b)))))),
  )

  taps_say : taps_sound x ≡ true ↔ Taps x
  unfolding taps_sound
  taps_say =
      let below : ℕ → Bool = λ i. ltb (get_or x.taps i 0) 257 in
      let none : ℕ → Bool = λ i. eqb (get_or x.taps (suc (size x) + i) 0) 0 in (
        λ e.
            let (first, rest) = both (eqb (get_or x.taps 0 0) 1) (every 144 below && every 8 none) e in
            let (residues, zeros) = both (every 144 below) (every 8 none) rest in
            record {
              first = eqb-true _ _ first;
              residues = λ i b. ltb-true _ _ (every-at 144 below residues i b);
              zeros = λ i b. eqb-true _ _ (every-at 8 none zeros i b);
            },
        λ t.
            and _ _ (eq-eqb _ _ t.first)
            (and (every 144 below) (every 8 none) (every_of 144 below (λ i b. lt-ltb _ _ (t.residues i b)))
            (every_of 8 none (λ i b. eq-eqb _ _ (t.zeros i b)))),
      )

  symbols_say : symbols_sound x ≡ true ↔ Summed x
  unfolding symbols_sound
  symbols_say =
      let test : ℕ → Bool = λ i. ltb (get_or x.symbols (steps x * 144 + (all_rounds x - suc (rounds x)) + i) 0) 257 in
      let early : Bool = leb (suc (rounds x)) (size x + (all_rounds x - long x)) in (
        λ e asked i b.
            ltb-true _ _ (every-at (suc (size x)) test (otherwise early _ e (lt-leb _ _ asked)) i b),
        λ s. unless early (every (suc (size x)) test) (λ e. every_of (suc (size x)) test (λ i b. lt-ltb _ _ (s (leb-false _ _ e) i b))),
      )
    where
      otherwise : (a b : Bool) → (a || b) ≡ true → a ≡ false → b ≡ true
      otherwise true b e not = absurd (true≢false not)
      otherwise false b e not = e

      unless : (a b : Bool) → (a ≡ false → b ≡ true) → (a || b) ≡ true
      unless true b f = refl
      unless false b f = f refl

-- a step of k sequences can be made
pub record Tested (k : ℕ) (x : Synthesis) : Type 0 where
  pub counts : Counts k x
  pub saved : SavedNext x
  pub taps : Taps x
  pub symbols : Summed x

pub tests_say : (k : ℕ) (x : Synthesis) → synthesis_sound k x ≡ true ↔ Tested k x
unfolding synthesis_sound
tests_say k x = (
  λ e.
      let (counts, e₁) = both _ _ e in
      let (saved, e₂) = both _ _ e₁ in
      let (taps, symbols) = both _ _ e₂ in
      record {
        counts = (counts_say k x).0 counts;
        saved = (saved-says x).0 saved;
        taps = (taps_say x).0 taps;
        symbols = (symbols_say x).0 symbols;
      },
  λ t.
      and _ _ ((counts_say k x).1 t.counts)
      (and _ _ ((saved-says x).1 t.saved) (and _ _ ((taps_say x).1 t.taps) ((symbols_say x).1 t.symbols))),
)
