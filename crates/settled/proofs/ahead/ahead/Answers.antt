use native.Mathlib.Omega.{arith}
use Rattle.settled.proofs.Cells.{taken-off-none, taken-off-more, taken-off-all}
use Rattle.settled.proofs.ahead.ahead.Goals as goal

pub loop-i-init : goal.loop-i-init
loop-i-init c = taken-off-none _ _ _ _ (omega (arith, c.requires.modulus.taken.two_or_more))

pub loop-i-preserved : goal.loop-i-preserved
loop-i-preserved c = taken-off-more _ _ _ _ c.loop-i.invariant (rw c.from.ensures at c.take_off.ensures)

-- after the last tap
pub returns-2 : goal.returns-2
returns-2 c =
    let last = taken-off-more _ _ _ _ c.loop-i.invariant (rw c.from.ensures at c.take_off.ensures) in
    taken-off-all _ _ _ _ last (omega arith) (omega (arith, c.padded-end.ensures.enough))
