use mathlib.Core.Path.{ap, ◌∙◌}
use Prim.Native.Nat.{ℕ, suc, ◌-◌}
use native.Mathlib.Omega.{arith}
use lib.ListN.{length, get_or}
use Rattle.lists.specs.Tabulate.{tabulate}
use Rattle.lists.proofs.Filling.{filled_none, filled_more, filled-all}
use Rattle.sequences.proofs.backwards.backwards.Goals as goal

pub loop-k-init : goal.loop-k-init
loop-k-init c = filled_none _ _

pub loop-k-preserved : goal.loop-k-preserved
loop-k-preserved c =
    let at = c.loop-k in
    let lengths = c.requires in
    filled_more _ _ at.k _ at.to at.invariant (let s = at.invariant.size in omega arith)
    (ap (λ (i : ℕ). get_or c.args.s.now i 0) (omega arith))

pub returns : goal.returns
returns c =
    let at = c.loop-k in
    let s = c.args.s.now in
    let lengths = c.requires in
    filled-all _ _ _ _ at.invariant (let s = at.invariant.size in omega arith) ∙ ap (λ (n : ℕ). tabulate n (λ i. get_or s (length s - suc i) 0)) lengths
