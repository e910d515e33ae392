use mathlib.Core.Path.{refl}
use native.Mathlib.Omega.{arith}
use Rattle.plain.proofs.Writing.{wrote_none, wrote-put, wrote-all}
use Rattle.plain_frames.proofs.damage.number.Goals as goal

pub loop-i-preserved : goal.loop-i-preserved
loop-i-preserved c = (omega arith, wrote-put 0 c.loop-i.i _ c.loop-i.invariant.1 (omega arith) (rw c.from.ensures at c.put.ensures) refl)

pub returns : goal.returns
returns c = wrote-all 0 _ _ c.loop-i.invariant.1 c.loop-i.invariant.0 (omega arith)

pub loop-i-init : goal.loop-i-init
loop-i-init c = (omega arith, wrote_none _ 0 _)
