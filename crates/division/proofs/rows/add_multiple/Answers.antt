use mathlib.Core.Path.{ap, ap₂, ◌∙◌}
use Prim.Native.Nat.{ℕ, ◌+◌, ◌*◌}
use native.Mathlib.Omega.{arith}
use lib.ListN.{get_or}
use Rattle.lists.specs.Tabulate.{tabulate}
use Rattle.lists.proofs.Filling.{filled_none, filled_more, filled-rest, filled-all}
use Rattle.division.proofs.rows.add_multiple.Goals as goal

pub loop-a-init : goal.loop-a-init
loop-a-init c = filled_none _ _

pub overflow_add-cells : goal.overflow_add-cells
overflow_add-cells c =
    let old = filled-rest _ _ _ _ c.loop-a.invariant c.loop-a.a (omega arith) (omega arith) in
    let fits = c.requires.1 c.loop-a.a (omega arith) in
    let r = c.product.ensures in
    omega arith

pub loop-a-preserved : goal.loop-a-preserved
loop-a-preserved c =
    filled_more _ _ c.loop-a.a _ c.loop-a.cells c.loop-a.invariant (let s = c.loop-a.invariant.size in omega arith)
    (ap₂ ◌+◌ (filled-rest _ _ _ _ c.loop-a.invariant c.loop-a.a (omega arith) (omega arith)) c.product.ensures)

pub returns : goal.returns
returns c =
    filled-all _ _ _ _ c.loop-a.invariant (let s = c.loop-a.invariant.size in omega arith)
    ∙ ap (λ (n : ℕ). tabulate n (λ k. get_or c.args.cells.now k 0 + get_or c.args.x.now k 0 * c.args.w)) c.requires.0
