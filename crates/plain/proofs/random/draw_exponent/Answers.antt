-- `plain::random::draw_exponent` meets its contract.
use Rattle.std.proofs.Common.{arith}
use Rattle.plain.proofs.Draws.{drawn-below}
use Rattle.plain.proofs.random.draw_exponent.Goals as goal

pub returns-in_default : goal.returns-in_default
returns-in_default c = rw c.from.ensures (drawn-below _ 256 (omega arith) c.draw-in_default.ensures.1)
