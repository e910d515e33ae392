use mathlib.Core.Path.{◌≡◌, ap, ◌∙◌}
use Prim.Native.Nat.{ℕ}
use native.Mathlib.Omega.{arith}
use borrow.Author.Rules.{rules}
use Rattle.lists.proofs.Tabulated.{tabulate-zero}
use Rattle.sequences.specs.Backwards.{backwards_over}
use Rattle.sequences.specs.Places.{sequence_at, sequences_at}
use Rattle.sequences.proofs.Reversing.{none_backwards, one_backwards, same-lengths, still-whole}
use Rattle.sequences.proofs.backwards.all_backwards.Goals as goal

pub loop-h-init : goal.loop-h-init
loop-h-init c = none_backwards _ _ c.requires.1 (tabulate-zero (sequence_at c.args.order c.args.symbols.now))

pub slice_bounds-backwards-end : goal.slice_bounds-backwards-end
slice_bounds-backwards-end c =
    let pre = c.requires.0 in
    omega (arith, pre.short c.loop-h.h (search rules), pre.count, still-whole _ _ c.loop-h.h _ _ _ pre (search rules) c.loop-h.invariant, c.from-size.ensures)

pub slice_bounds-backwards-end-in-loop-h : goal.slice_bounds-backwards-end-in-loop-h
slice_bounds-backwards-end-in-loop-h c = omega (arith, c.requires.0.within c.loop-h.h (search rules), c.from-a.ensures, c.from-size.ensures)

pub backwards-requires : goal.backwards-requires
backwards-requires c = same-lengths _ _ c.loop-h.h _ _ _ c.requires.0 (search rules) c.loop-h.invariant c.from-a.ensures c.from-size.ensures

pub loop-h-preserved : goal.loop-h-preserved
loop-h-preserved c =
    one_backwards _ _ c.loop-h.h _ _ _ c.requires.0 (search rules) c.loop-h.invariant c.from-a.ensures c.from-size.ensures c.backwards.ensures

pub returns : goal.returns
returns c =
    c.loop-h.invariant
    ∙ ap (λ (k : ℕ). backwards_over (sequences_at c.args.order k c.args.symbols.now) c.args.blocks.now)
    (let e : c.loop-h.h ≡ c.args.count = omega arith in e)
