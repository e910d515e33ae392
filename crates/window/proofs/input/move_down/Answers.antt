use mathlib.Core.Path.{◌≡◌}
use native.Mathlib.Omega.{arith}
use Rattle.lists.proofs.Moving.{moved_none, moved_more}
use Rattle.window.proofs.input.move_down.Goals as goal

pub loop-i-init : goal.loop-i-init
loop-i-init c = moved_none _ _

pub loop-i-preserved : goal.loop-i-preserved
loop-i-preserved c = moved_more _ _ _ _ (omega arith) c.loop-i.invariant

pub shape_of-buffer : goal.shape_of-buffer
shape_of-buffer c = c.loop-i.invariant.width

pub returns : goal.returns
returns c = let all : c.loop-i.i ≡ c.args.n = omega arith in rw all at c.loop-i.invariant.moved
