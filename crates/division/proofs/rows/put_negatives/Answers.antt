use mathlib.Core.Path.{◌≡◌, refl, ap, ◌∙◌}
use mathlib.Core.Bool.{cond}
use Prim.Native.Nat.{ℕ, ◌-◌, ◌%◌}
use native.Mathlib.Omega.{arith}
use lib.Dec.{ltb}
use lib.ListN.{length, get_or}
use Rattle.lists.specs.Tabulate.{tabulate}
use Rattle.lists.proofs.Filling.{filled_none, filled_more}
use Rattle.division.proofs.rows.put_negatives.Goals as goal

pub loop-k-init : goal.loop-k-init
loop-k-init c = filled_none _ _

pub loop-k-preserved : goal.loop-k-preserved
loop-k-preserved c =
    filled_more _ _ c.loop-k.k _ c.loop-k.row c.loop-k.invariant (let s = c.loop-k.invariant.size in omega arith) refl

pub returns : goal.returns
returns c =
    let row = c.args.row.now in
    c.loop-k.invariant.entries
    ∙ ap (λ (m : ℕ). tabulate (length row) (λ k. cond (ltb k m) ((257 - get_or c.args.cells.now k 0 % 257) % 257) (get_or row k 0)))
    (let q : c.loop-k.k ≡ c.args.m = omega arith in q)
