-- What the code of a step writes: the arrays one step further.
use mathlib.Core.Path.{◌≡◌, sym, ap, subst, ◌∙◌}
use mathlib.Core.Bool.{Bool, true, false, cond}
use mathlib.Core.List.{List, [], ◌∷◌}
use Prim.Native.Nat.{ℕ, suc, ◌+◌, ◌≤◌, ◌<◌}
use native.Mathlib.Numerals.{add-one}
use native.Mathlib.Omega.{arith}
use lib.Dec.{eqb, ltb}
use lib.ListN.{length, get_or, set}
use borrow.Author.Tests.{lt-ltb, le-ltb}
use Rattle.lists.proofs.Tabulated.{tabulate-get_or}
use Rattle.lists.specs.Tabulate.{tabulate}
use Rattle.discrepancy.specs.Discrepancies.{sequence_in, due_at}
use Rattle.register_step.specs.Parts.{Parts, Steppable, stayed_parts, grown_parts, changed_parts, step_parts}
use Rattle.slices.specs.Synthesis.{
  Synthesis,
  synthesis,
  all_rounds,
  rounds,
  steps,
  found,
  long,
  parts_in,
  with_parts,
  advanced,
  synthesis_sound,
}
use Rattle.slices.proofs.Stepping.{rounds-few, rounds-left, sound-steppable-one}

-- a step makes no register longer than its round
module _ (p N : ℕ) (s : List ℕ) (n h : ℕ) (x : Parts) (saved : get_or x.sizes h 0 ≤ get_or x.places h 0) (grown : x.length ≤ n) where
  either : (b : Bool) (y z : Parts) → y.length ≤ n → z.length ≤ n → (cond b y z).length ≤ n
  either true y z l r = l
  either false y z l r = r

  changed-short : (d : ℕ) → (changed_parts p n h d x).length ≤ n
  unfolding changed_parts
  changed-short d =
      either (ltb (get_or x.places h 0 + x.length) (n + get_or x.sizes h 0)) (grown_parts p n h d x) (stayed_parts p n h d x) (omega (arith, saved)) grown

  step-short : (step_parts p N s n h x).length ≤ n
  unfolding step_parts
  step-short =
      let d : ℕ = due_at p N x.length x.taps s n in
      either (eqb d 0) x (changed_parts p n h d x) grown (changed-short d)

-- an array of five
five : (l : List ℕ) → length l ≡ 5 → l ≡ get_or l 0 0 ∷ get_or l 1 0 ∷ get_or l 2 0 ∷ get_or l 3 0 ∷ get_or l 4 0 ∷ []
unfolding tabulate
five l w = sym (tabulate-get_or l 0) ∙ ap (λ (n : ℕ). tabulate n (λ i. get_or l i 0)) w

module _ {p : ℕ} (is : p ≡ 257) (k : ℕ) (x : Synthesis) where
  module _ (few : k ≤ 8) (sound : synthesis_sound k x ≡ true) (width : length x.taps ≡ 144) (saved-width : length x.saved ≡ 1152) where
    pub steppable : Steppable p (all_rounds x) (steps x) (long x) (rounds x + 1) x.symbols (parts_in x)
    steppable =
        subst (λ (q : ℕ). Steppable q (all_rounds x) (steps x) (long x) (rounds x + 1) x.symbols (parts_in x)) (sym is)
        (sound-steppable-one k x few sound width saved-width)

    pub stays-short : {y : Parts} → y ≡ step_parts p (all_rounds x) (sequence_in x.symbols (steps x) (long x)) (rounds x + 1) (steps x) (parts_in x) →
        y.length ≤ 64
    stays-short made =
        let short = step-short p (all_rounds x) (sequence_in x.symbols (steps x) (long x)) (rounds x + 1) (steps x) (parts_in x)
        steppable.readable.saved-size steppable.reach.grown
        in
        rw made (omega (arith, short, rounds-few k x few sound, rounds-left k x few sound))

  module _ (y : Parts) (five-wide : length x.counts ≡ 5)
      (made : y ≡ step_parts p (all_rounds x) (sequence_in x.symbols (steps x) (long x)) (rounds x + 1) (steps x) (parts_in x)) where
    abbrev next : Parts
    next = step_parts 257 (all_rounds x) (sequence_in x.symbols (steps x) (long x)) (suc (rounds x)) (steps x) (parts_in x)

    made-next : y ≡ next
    made-next =
        made
        ∙ ap (λ (q : ℕ). step_parts q (all_rounds x) (sequence_in x.symbols (steps x) (long x)) (rounds x + 1) (steps x) (parts_in x)) is
        ∙ ap (λ (n : ℕ). step_parts 257 (all_rounds x) (sequence_in x.symbols (steps x) (long x)) n (steps x) (parts_in x)) (add-one (rounds x))

    abbrev inside : Synthesis
    inside = with_parts x (rounds x) (suc (steps x)) (found x) next

    abbrev finished : Synthesis
    finished = with_parts x (suc (rounds x)) 0 next.length next

    abbrev holding : List ℕ → Synthesis
    holding counts = synthesis counts x.lengths x.symbols y.places y.sizes y.discs y.quotients y.taps y.saved

    pub goes_on : steps x + 1 < k → holding (set (set x.counts 4 y.length) 2 (steps x + 1)) ≡ advanced k x
    unfolding advanced
    goes_on more =
        ap (λ (l : List ℕ). holding (set (set l 4 y.length) 2 (steps x + 1))) (five x.counts five-wide)
        ∙ ap (λ (h : ℕ). with_parts x (rounds x) h (found x) y) (add-one (steps x))
        ∙ ap (with_parts x (rounds x) (suc (steps x)) (found x)) made-next
        ∙ sym (ap (λ (b : Bool). cond b inside finished) (lt-ltb (suc (steps x)) k (omega arith)))

    pub finishes : k ≤ steps x + 1 →
        holding (set (set (set (set x.counts 4 y.length) 1 (rounds x + 1)) 2 0) 3 y.length) ≡ advanced k x
    unfolding advanced
    finishes last =
        ap (λ (l : List ℕ). holding (set (set (set (set l 4 y.length) 1 (rounds x + 1)) 2 0) 3 y.length)) (five x.counts five-wide)
        ∙ ap (λ (n : ℕ). with_parts x n 0 y.length y) (add-one (rounds x))
        ∙ ap (λ (z : Parts). with_parts x (suc (rounds x)) 0 z.length z) made-next
        ∙ sym (ap (λ (b : Bool). cond b inside finished) (le-ltb (suc (steps x)) k (omega arith)))
