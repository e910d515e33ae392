use Rattle.std.proofs.Common.{arith}
use Rattle.brute.proofs.Marks.{marked_begin, marked-on, marked_all}
use Rattle.brute.proofs.locator.mark.Goals as goal

pub loop-i-init : goal.loop-i-init
loop-i-init c = (omega arith, marked_begin _ _ _)

pub loop-i-preserved : goal.loop-i-preserved
loop-i-preserved c = (omega arith, marked-on _ _ _ _ _ _ _ c.loop-i.i _ c.loop-i.invariant.1 c.names-marked.ensures (rw (c.from.ensures, c.from-in-loop-i.ensures) at c.put.ensures))

pub returns : goal.returns
returns c = marked_all _ _ _ _ _ _ _ c.loop-i.invariant.1 c.loop-i.invariant.0 (omega arith)
