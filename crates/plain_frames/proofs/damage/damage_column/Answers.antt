use mathlib.Core.Path.{ap₂}
use Prim.Native.Nat.{ℕ, ◌+◌}
use native.Mathlib.Omega.{arith}
use Rattle.plain_frames.proofs.Errors.{drawn-nonzero, error-nonzero}
use Rattle.plain_frames.proofs.Striking.{struck_none, struck_more, struck_all}
use Rattle.plain_frames.proofs.damage.damage_column.Goals as goal

pub loop-h-init : goal.loop-h-init
loop-h-init c = (omega arith, struck_none _ _ _ _)

pub loop-h-preserved : goal.loop-h-preserved
loop-h-preserved c =
    let place = ap₂ (λ (x y : ℕ). x + y) c.product.ensures.0 c.from.ensures in
    let some = error-nonzero _ _ _ (rw c.from-in-loop-h.ensures at c.get.ensures) c.error-x.ensures (drawn-nonzero _ c.draw_from-e.ensures.1) in
    (omega arith, struck_more _ c.loop-h.invariant.1 place some c.get-in-loop-h.ensures c.plus_product-v.ensures c.put.ensures)

pub returns : goal.returns
returns c = struck_all _ _ _ _ c.loop-h.invariant.1 c.loop-h.invariant.0 (omega arith)
