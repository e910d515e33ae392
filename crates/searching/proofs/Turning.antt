-- A start or a step that has ended can be located by what it leaves, whoever wrote the arrays.
use mathlib.Core.Path.{◌≡◌, refl, sym, ap, ◌∙◌}
use mathlib.Core.Bool.{Bool, true, not, ◌||◌, and-eq-true_iff}
use mathlib.Core.List.{List}
use Prim.Native.Nat.{ℕ, suc, ◌≤◌, ◌<◌}
use native.Mathlib.Decide.{dec_lt, ℕ_discrete}
use native.Mathlib.Omega.{arith}
use lib.Dec.{ltb, eqb}
use lib.ListN.{length, get_or, set, replicate}
use lib.Seq.{get_or-set_other}
use borrow.Author.Tests.{ltb-true, eqb-true, lt-ltb, le-ltb, eq-eqb}
use Rattle.decoding.specs.Remaining.{all_remaining}
use Rattle.ends.specs.Ends.{Startable}
use Rattle.field.proofs.Coefficients.{residues-past}
use Rattle.frame.specs.DeclaredCells.{declared_by}
use Rattle.frame.specs.Frame.{held_sequences}
use Rattle.frame.specs.declared.Shape.{Shape}
use Rattle.frame.proofs.Shapes.{shape-ranges}
use Rattle.job.specs.Job.{end_sound, step_sound}
use Rattle.lists.proofs.Tabulated.{every-at, length-tabulate}
use Rattle.lists.specs.Tabulate.{every}
use Rattle.lists.proofs.Zeros.{zeros, zeros-entry}
use Rattle.register.specs.Sequences.{longest}
use Rattle.register.proofs.Cases.{cond_cases}
use Rattle.register.proofs.Ordering.{longest-bounds}
use Rattle.remaining.specs.Removable.{RemovableRows}
use Rattle.slices.specs.Kept.{Sliceable}
use Rattle.slices.specs.Synthesis.{Synthesis, all_rounds, rounds, steps, ended, last_step_of, begun, advanced, synthesis_sound}
use Rattle.slices.proofs.Leaving.{sound-leaves}
use Rattle.slices.proofs.Starting.{begun_kept}
use Rattle.slices.proofs.Stepping.{rounds-left, steps-left}
use Rattle.slices.proofs.Tests.{tests_say}
use Rattle.searching.specs.Arriving.{Endable, Turnable, all_arrays}

-- what a search that has ended holds
abbrev pub Ends : Shape → (declared sums : List ℕ) → Synthesis → Type 0
Ends s declared sums y = ended y ≡ true → Endable s declared sums y.counts y.lengths y.taps

-- ---- a start: it has ended where no sequence has a symbol

module _ (s : Shape) (declared sums : List ℕ) (asked : RemovableRows s (declared_by declared) sums) (old : Synthesis) where
  abbrev ss : List (List ℕ)
  ss = all_remaining s (declared_by declared) (held_sequences s sums)

  rows : length ss ≡ s.rows
  unfolding all_remaining
  rows = length-tabulate s.rows _

  sliceable : longest ss ≡ 0 → Sliceable ss
  sliceable none-long =
      record {
        count = omega (arith, rows, (shape-ranges s asked.shape).rows-most);
        short = omega (arith, none-long);
        residues = λ h b i less. absurd (let z : ⊥ = omega (arith, longest-bounds ss h b, none-long) in z);
      }

  one-tap : (i : ℕ) → get_or (set (replicate 144 0) 0 1) i 0 < 257
  one-tap i = pick (ℕ_discrete i 0)
    where
      pick : Dec (i ≡ 0) → get_or (set (replicate 144 0) 0 1) i 0 < 257
      pick (yes e) = rw e (omega arith)
      pick (no e) = rw (get_or-set_other (zeros 144) 0 i 1 0 e, zeros-entry 144 i) (omega arith)

  pub start-ends : Ends s declared sums (begun (all_remaining s (declared_by declared) (held_sequences s sums)) old)
  unfolding begun
  start-ends e =
      let none-long : longest ss ≡ 0 = sym (eqb-true 0 (longest ss) e) in
      let kept = begun_kept (sliceable none-long) old in
      record {
        shape = asked.shape;
        declarable = asked.declared;
        small = asked.sums-small;
        short = omega arith;
        first = refl;
        residues = λ i b. one-tap i;
        shorter =
            record {
              longest = omega (arith, none-long);
              count = (shape-ranges s asked.shape).rows-most;
              shorter = λ h b. kept.shorter h (omega (arith, (shape-ranges s asked.shape).rows-most));
            };
      }

-- ---- a step: it has ended where it was the last one

module _ (s : Shape) (declared sums taps : List ℕ) (x : Synthesis) (asked : Turnable s declared sums taps x) where
  abbrev k : ℕ
  k = s.rows

  few : s.rows ≤ 8
  few = (shape-ranges s asked.shape).rows-most

  pub step-sound : synthesis_sound s.rows x ≡ true
  unfolding step_sound
  step-sound = ((and-eq-true_iff _ _).0 asked.sound).0

  -- what the last step reads besides
  last_says : last_step_of k x ≡ true → end_sound s (all_arrays sums taps declared x) ≡ true
  unfolding step_sound
  last_says e =
      let end : Bool = end_sound s (all_arrays sums taps declared x) in
      ap (λ (b : Bool). not b || end) (sym e) ∙ ((and-eq-true_iff (synthesis_sound k x) (not (last_step_of k x) || end)).0 asked.sound).1

  pub ended-last : ended (advanced k x) ≡ true → last_step_of k x ≡ true
  unfolding advanced
  ended-last e = pick (dec_lt (suc (steps x)) k)
    where
      pick : Dec (suc (steps x) < k) → last_step_of k x ≡ true
      pick (yes more) =
          let same : rounds x ≡ all_rounds x = eqb-true (rounds x) (all_rounds x) (rw (lt-ltb (suc (steps x)) k more) at e) in
          absurd (let z : ⊥ = omega (arith, same, rounds-left k x few step-sound) in z)
      pick (no past) =
          let over : k ≤ suc (steps x) = omega arith in
          let same : suc (rounds x) ≡ all_rounds x = eqb-true (suc (rounds x)) (all_rounds x) (rw (le-ltb (suc (steps x)) k over) at e) in
          (and-eq-true_iff (eqb (suc (steps x)) k) (eqb (suc (rounds x)) (all_rounds x))).1
          (eq-eqb (suc (steps x)) k (omega (arith, steps-left k x few step-sound)), eq-eqb (suc (rounds x)) (all_rounds x) same)

  -- the number of rounds and the lengths stay
  same-rounds : all_rounds (advanced k x) ≡ all_rounds x
  unfolding advanced
  same-rounds = cond_cases (λ (z : Synthesis). all_rounds z ≡ all_rounds x) (ltb (suc (steps x)) k) _ _ (λ _. refl) (λ _. refl)

  same-lengths : (advanced k x).lengths ≡ x.lengths
  unfolding advanced
  same-lengths = cond_cases (λ (z : Synthesis). z.lengths ≡ x.lengths) (ltb (suc (steps x)) k) _ _ (λ _. refl) (λ _. refl)

  shorter : Startable (all_rounds (advanced k x)) (advanced k x).lengths k
  shorter =
      let c = ((tests_say k x).0 step-sound).counts in
      rw (same-rounds, same-lengths)
      record { longest = omega (arith, c.few); count = few; shorter = λ h b. c.shorter h (omega (arith, few)) }

  pub step-ends : length sums ≡ 512 → Ends s declared sums (advanced s.rows x)
  unfolding end_sound
  step-ends width e =
      let (sums-small, cells) = (and-eq-true_iff (every 512 (λ i. ltb (get_or sums i 0) 257)) _).0 (last_says (ended-last e)) in
      let left = sound-leaves k x step-sound in
      record {
        shape = asked.shape;
        declarable = cells;
        small = residues-past 257 sums (omega arith) (λ i b. ltb-true _ _ (every-at 512 _ sums-small i (omega (arith, width))));
        short = left.short;
        first = left.first;
        residues = left.residues;
        shorter = shorter;
      }
