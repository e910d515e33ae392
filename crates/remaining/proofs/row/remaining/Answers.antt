use mathlib.Core.Path.{refl, ◌∙◌}
use native.Mathlib.Omega.{arith}
use Rattle.remaining.proofs.RowLeft.{multiplied_none, multiplied_more, addable, multiplied_all}
use Rattle.remaining.proofs.row.remaining.Goals as goal

pub loop-k-init : goal.loop-k-init
loop-k-init c = multiplied_none _ _ _ _

pub add_multiple-requires : goal.add_multiple-requires
add_multiple-requires c = addable c.loop-k.invariant c.requires c.size-e.ensures refl c.locator_polynomial-f.ensures (omega arith)

pub loop-k-preserved : goal.loop-k-preserved
loop-k-preserved c = multiplied_more c.loop-k.invariant (omega arith) c.add_multiple.ensures

pub returns : goal.returns
returns c =
    c.reduce.ensures
    ∙ multiplied_all c.loop-k.invariant c.requires c.size-e.ensures refl c.locator_polynomial-f.ensures (omega arith)
