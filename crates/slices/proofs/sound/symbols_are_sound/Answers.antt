-- `symbols_are_sound` answers whether what the next step sums are residues.
use mathlib.Core.Path.{◌≡◌, ap, ap₂, ◌∙◌}
use Prim.Native.Nat.{ℕ, suc, ◌+◌, ◌-◌, ◌*◌}
use native.Mathlib.Omega.{arith}
use borrow.Author.Rules.{rules}
use borrow.Author.Tests.{lt-leb}
use lib.Dec.{ltb}
use lib.ListN.{get_or}
use Rattle.lists.specs.Tabulate.{every}
use Rattle.slices.specs.Synthesis.{symbols_sound}
use Rattle.slices.proofs.Answers.{remains}
use Rattle.sequences.proofs.Part.{every_part}
use Rattle.slices.proofs.Tests.{counts_say}
use Rattle.slices.proofs.sound.symbols_are_sound.Goals as goal

pub prove-unreachable-requires : goal.prove-unreachable-requires
prove-unreachable-requires c = let step = ((counts_say 8 _).0 c.requires).step in omega (arith, c.from-h.ensures)

pub overflow_sub-first : goal.overflow_sub-first
overflow_sub-first c = let round = ((counts_say 8 _).0 c.requires).round in omega (arith, c.from-n.ensures, c.from-longest.ensures)

pub overflow_sub-longest : goal.overflow_sub-longest
overflow_sub-longest c =
    let counts = (counts_say 8 _).0 c.requires in
    rw (c.from.ensures, c.from-longest.ensures, c.from-h.ensures) (counts.shorter _ counts.step)

pub slice_bounds-every-end : goal.slice_bounds-every-end
slice_bounds-every-end c =
    let counts = (counts_say 8 _).0 c.requires in
    omega (arith, counts.few, counts.round, counts.step, counts.grown, c.from-h.ensures, c.from-n.ensures, c.from-l.ensures, c.from-longest.ensures)

pub returns-else-n-l : goal.returns-else-n-l
unfolding symbols_sound
returns-else-n-l c =
    let N = get_or c.args.counts.now 0 0 in
    let n = get_or c.args.counts.now 1 0 in
    let h = get_or c.args.counts.now 2 0 in
    let l = get_or c.args.counts.now 4 0 in
    let symbols = c.args.symbols.now in
    let counts = (counts_say 8 _).0 c.requires in
    let long : c.from.result ≡ get_or c.args.lengths.now h 0 = c.from.ensures ∙ ap (λ (k : ℕ). get_or c.args.lengths.now k 0) c.from-h.ensures in
    let first : ℕ = c.from-h.result * 144 + (c.from-longest.result - (c.from-n.result + 1)) in
    remains _ _ (lt-leb _ _ (omega (arith, c.if-n-l.false, long, c.from-longest.ensures, c.from-n.ensures, c.from-l.ensures)))
    (c.every.ensures (λ v. ltb v 257) (λ v r b p. search rules)
    ∙ every_part (λ v. ltb v 257) symbols first (c.from-l.result + 1) (omega arith)
    (let few = counts.few in let round = counts.round in let step = counts.step in let grown = counts.grown in
    omega (arith, c.from-h.ensures, c.from-n.ensures, c.from-l.ensures, c.from-longest.ensures, c.told-symbols))
    ∙ ap₂ (λ (m a : ℕ). every m (λ i. ltb (get_or symbols (a + i) 0) 257)) (let e : c.from-l.result + 1 ≡ suc l = omega (arith, c.from-l.ensures) in e)
    (let e : first ≡ h * 144 + (N - suc n) = omega (arith, c.from-h.ensures, c.from-longest.ensures, c.from-n.ensures) in e))
