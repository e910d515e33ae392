-- `window::output::next_size` meets its contract.
use native.Mathlib.Omega.{arith}
use Rattle.window.proofs.Putting.{whole-next, none-next, last-next}
use Rattle.window.proofs.output.next_size.Goals as goal

pub returns-then-whole-bytes : goal.returns-then-whole-bytes
returns-then-whole-bytes c = whole-next _ _ _ c.claimed-whole.ensures.0 (omega arith)

pub returns-then-more : goal.returns-then-more
returns-then-more c = none-next _ _ _ c.claimed-whole.ensures.0 (omega arith) c.if-more.true

pub returns : goal.returns
returns c = last-next _ _ _ c.claimed-whole.ensures.0 (omega arith) c.if-more.false
