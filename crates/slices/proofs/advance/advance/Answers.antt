-- `advance` makes the step that comes next.
use mathlib.Core.Path.{◌≡◌, ap, ◌∙◌}
use Prim.Native.Nat.{ℕ, ◌+◌, ◌≤◌, ◌<◌}
use native.Mathlib.Omega.{arith}
use lib.ListN.{get_or}
use borrow.Author.Rules.{rules}
use Rattle.discrepancy.specs.Discrepancies.{sequence_in}
use Rattle.register_step.specs.Parts.{parts, step_parts}
use Rattle.slices.specs.Synthesis.{Synthesis, synthesis, all_rounds, rounds, steps, long, parts_in}
use Rattle.slices.proofs.Writing.{steppable, stays-short, goes_on, finishes}
use Rattle.slices.proofs.Stepping.{rounds-few, rounds-left, steps-left}
use Rattle.slices.proofs.advance.advance.Goals as goal
use Rattle.slices.proofs.advance.advance.Goals.{After-single_step-l, Start}

-- what the arrays hold
abbrev held : Start → Synthesis
held c =
    let a = c.args in
    synthesis a.counts.now a.lengths.now a.symbols.now a.places.now a.sizes.now a.discs.now a.quotients.now a.taps.now
    a.saved.now

few-rounds : (c : Start) → (all_rounds (held c) ≤ 64) × (rounds (held c) < all_rounds (held c))
few-rounds c = (rounds-few _ _ c.requires.count_bound c.requires.saved_value, rounds-left _ _ c.requires.count_bound c.requires.saved_value)

few-steps : (c : Start) → steps (held c) < 8
few-steps c = omega (arith, steps-left _ (held c) c.requires.count_bound c.requires.saved_value, c.requires.count_bound)

pub bounds-lengths-h : goal.bounds-lengths-h
bounds-lengths-h c = omega (arith, few-steps (goal.at.bounds-lengths-h c).Start, c.from-h.ensures)

pub single_step-l-requires : goal.single_step-l-requires
single_step-l-requires c =
    let made = c.modulus-f.ensures in
    record {
      worked_out = made.1;
      steppable =
          rw (c.from-longest.ensures, c.from-h.ensures, c.from.ensures, c.from-h.ensures, c.from-n.ensures, c.from-2.ensures)
          (steppable made.0 _ (held (goal.at.single_step-l-requires c).Start) c.requires.count_bound c.requires.saved_value (search rules) (search rules));
    }

-- the step that the code makes is the next one of what the arrays held
made : (c : After-single_step-l) →
    let a = c.args in
    let x = synthesis a.counts.now a.lengths.now a.symbols.now a.places.now a.sizes.now a.discs.now a.quotients.now a.taps.now a.saved.now in
    let y = c.single_step-l.new in
    parts c.single_step-l.result y.places y.sizes y.discs y.quotients y.taps y.saved
    ≡ step_parts c.modulus-f.result.p (all_rounds x) (sequence_in a.symbols.now (steps x) (long x)) (rounds x + 1) (steps x) (parts_in x)
made c =
    let a = c.args in
    let long-is : c.from.result ≡ get_or a.lengths.now (get_or a.counts.now 2 0) 0 =
    c.from.ensures ∙ ap (λ (h : ℕ). get_or a.lengths.now h 0) c.from-h.ensures
    in
    c.single_step-l.ensures
    ∙ (λ i.
    step_parts c.modulus-f.result.p (c.from-longest.ensures i) (sequence_in a.symbols.now (c.from-h.ensures i) (long-is i))
    (c.from-n.ensures i + 1) (c.from-h.ensures i)
    (parts (c.from-2.ensures i) a.places.now a.sizes.now a.discs.now a.quotients.now a.taps.now a.saved.now))

short : (c : After-single_step-l) → c.single_step-l.result ≤ 64
short c =
    stays-short c.modulus-f.ensures.0 _ _ c.requires.count_bound c.requires.saved_value (search rules) (search rules) (made c)

pub overflow_cast-counts : goal.overflow_cast-counts
overflow_cast-counts c = record { fits = omega (arith, short c) }

pub overflow_cast-counts-2 : goal.overflow_cast-counts-2
overflow_cast-counts-2 c = let few = few-rounds (goal.at.overflow_cast-counts-2 c).Start in record { fits = omega (arith, few.0, few.1, c.from-n.ensures) }

pub overflow_cast-counts-3 : goal.overflow_cast-counts-3
overflow_cast-counts-3 c = record { fits = omega (arith, short (goal.at.overflow_cast-counts-3 c).After-single_step-l) }

pub returns-then-h-count : goal.returns-then-h-count
returns-then-h-count c =
    rw c.from-h.ensures
    (goes_on c.modulus-f.ensures.0 _ (held (goal.at.returns-then-h-count c).Start) _ (search rules) (made (goal.at.returns-then-h-count c).After-single_step-l)
    (omega (arith, c.if-h-count.true, c.from-h.ensures)))

pub returns : goal.returns
returns c =
    rw c.from-n.ensures
    (finishes c.modulus-f.ensures.0 _ (held (goal.at.returns c).Start) _ (search rules) (made (goal.at.returns c).After-single_step-l)
    (omega (arith, c.if-h-count.false, c.from-h.ensures)))
