-- The search for a register in slices, modulo 257: what is kept between two steps of Algorithm 4, as arrays; the start; one step further; and what has to hold of
-- arrays that nobody started, so that a step can be made.
use Rattle.std.specs.Prelude.{Bool, cond, ◌&&◌, ◌||◌, List, [], ◌∷◌, ℕ, suc, ◌+◌, ◌-◌, ◌*◌, ◌%◌, max, leb, ltb, eqb, length, get_or, set, replicate}
use Rattle.lists.specs.Tabulate.{tabulate, every}
use Rattle.register.specs.Sequences.{longest, ordered}
use Rattle.sequences.specs.Backwards.{backwards_over}
use Rattle.discrepancy.specs.Discrepancies.{sequence_in}
use Rattle.register_step.specs.Parts.{Parts, parts, step_parts}

-- Five numbers, see below; the lengths of the sequences by falling length; these sequences backwards, each in a block of its own; and the parts of the state.
pub record Synthesis : Type 0 where
  pub counts : List ℕ
  pub lengths : List ℕ
  pub symbols : List ℕ
  pub places : List ℕ
  pub sizes : List ℕ
  pub discs : List ℕ
  pub quotients : List ℕ
  pub taps : List ℕ
  pub saved : List ℕ

-- the same of nine arrays
abbrev pub synthesis : (counts lengths symbols places sizes discs quotients taps saved : List ℕ) → Synthesis
synthesis counts lengths symbols places sizes discs quotients taps saved =
    record {
      counts = counts;
      lengths = lengths;
      symbols = symbols;
      places = places;
      sizes = sizes;
      discs = discs;
      quotients = quotients;
      taps = taps;
      saved = saved;
    }

-- ---- the numbers

-- the longest length N, which is the number of rounds
abbrev pub all_rounds : Synthesis → ℕ
all_rounds x = get_or x.counts 0 0

-- the finished rounds
abbrev pub rounds : Synthesis → ℕ
rounds x = get_or x.counts 1 0

-- the steps made of the next round: the next step is at the sequence of that number
abbrev pub steps : Synthesis → ℕ
steps x = get_or x.counts 2 0

-- the length of the register after the last finished round; inside a round it may be longer already
abbrev pub found : Synthesis → ℕ
found x = get_or x.counts 3 0

-- its length now
abbrev pub size : Synthesis → ℕ
size x = get_or x.counts 4 0

-- the length of the sequence of the next step
abbrev pub long : Synthesis → ℕ
long x = get_or x.lengths (steps x) 0

-- the parts of the state
abbrev pub parts_in : Synthesis → Parts
parts_in x = parts (size x) x.places x.sizes x.discs x.quotients x.taps x.saved

-- all rounds are finished
abbrev pub ended : Synthesis → Bool
ended x = eqb (rounds x) (all_rounds x)

-- the next step is the last one, of k sequences
abbrev pub last_step_of : (k : ℕ) → Synthesis → Bool
last_step_of k x = eqb (suc (steps x)) k && eqb (suc (rounds x)) (all_rounds x)

-- zeros
abbrev pub no_synthesis : Synthesis
no_synthesis =
    synthesis (replicate 5 0) (replicate 8 0) (replicate 1152 0) (replicate 8 0) (replicate 8 0) (replicate 8 0) (replicate 8 0) (replicate 144 0)
    (replicate 1152 0)

-- ---- start and step

-- the first 16 entries of each block are 0, which is as far as the first step of a sequence reads
unfoldable pub cleared_over : (old : List ℕ) → List ℕ
cleared_over old = tabulate 1152 (λ k. cond (ltb (k % 144) 16) 0 (get_or old k 0))

-- before the first step, of the sequences ss, up to eight; what old contents of the arrays stay is never read
unfoldable pub begun : (ss : List (List ℕ)) (old : Synthesis) → Synthesis
begun ss old =
    let N : ℕ = longest ss in
    let lengths : List ℕ = tabulate 8 (λ h. length (get_or (ordered ss) h [])) in
    record {
      counts = N ∷ 0 ∷ 0 ∷ 0 ∷ 0 ∷ [];
      lengths = lengths;
      symbols = backwards_over (ordered ss) old.symbols;
      places = tabulate 8 (λ h. N - get_or lengths h 0);
      sizes = replicate 8 0;
      discs = replicate 8 1;
      quotients = replicate 8 1;
      taps = set (replicate 144 0) 0 1;
      saved = cleared_over old.saved;
    }

-- with other numbers and parts
abbrev pub with_parts : Synthesis → (rounds steps found : ℕ) → Parts → Synthesis
with_parts x n h l y =
    synthesis (all_rounds x ∷ n ∷ h ∷ l ∷ y.length ∷ []) x.lengths x.symbols y.places y.sizes y.discs y.quotients y.taps y.saved

-- one step further, of k sequences: the last step of a round finishes it
unfoldable pub advanced : (k : ℕ) → Synthesis → Synthesis
advanced k x =
    let y : Parts =
    step_parts 257 (all_rounds x) (sequence_in x.symbols (steps x) (long x)) (suc (rounds x)) (steps x) (parts_in x)
    in
    cond (ltb (suc (steps x)) k) (with_parts x (rounds x) (suc (steps x)) (found x) y) (with_parts x (suc (rounds x)) 0 y.length y)

-- ---- arrays that nobody started

-- the numbers are in their ranges: rounds and steps are left, and neither a sequence nor the register is too long
unfoldable pub counts_sound : (k : ℕ) → Synthesis → Bool
counts_sound k x =
    leb (all_rounds x) 64 &&
    (ltb (rounds x) (all_rounds x) &&
    (ltb (steps x) k &&
    (leb (size x) (suc (rounds x)) && every 8 (λ h. leb (get_or x.lengths h 0) (all_rounds x)))))

-- what is saved for the sequence of the next step: its register is no longer than its place, which is that of a round before, or the first one; beside its
-- discrepancy stands the inverse; and zeros follow its taps
unfoldable pub saved_sound : Synthesis → Bool
saved_sound x =
    let h : ℕ = steps x in
    let place : ℕ = get_or x.places h 0 in
    let size : ℕ = get_or x.sizes h 0 in
    let quotient : ℕ = get_or x.quotients h 0 in
    leb size place &&
    (leb place (max (rounds x) (all_rounds x - long x)) &&
    (ltb quotient 257 &&
    (eqb (quotient * get_or x.discs h 0 % 257) 1 && every 8 (λ i. eqb (get_or x.saved (h * 144 + suc size + i) 0) 0))))

-- the register: residues, the first of which is 1, and zeros follow it
unfoldable pub taps_sound : Synthesis → Bool
taps_sound x =
    eqb (get_or x.taps 0 0) 1 &&
    (every 144 (λ i. ltb (get_or x.taps i 0) 257) && every 8 (λ i. eqb (get_or x.taps (suc (size x) + i) 0) 0))

-- nothing is asked for at the next step, or the symbols that it sums are residues
unfoldable pub symbols_sound : Synthesis → Bool
symbols_sound x =
    leb (suc (rounds x)) (size x + (all_rounds x - long x)) ||
    every (suc (size x)) (λ i. ltb (get_or x.symbols (steps x * 144 + (all_rounds x - suc (rounds x)) + i) 0) 257)

-- A step of k sequences can be made. Tested is only what it reads.
unfoldable pub synthesis_sound : (k : ℕ) → Synthesis → Bool
synthesis_sound k x = counts_sound k x && (saved_sound x && (taps_sound x && symbols_sound x))
