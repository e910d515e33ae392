use native.Mathlib.Numerals.{add-one}
use native.Mathlib.Nat.{le_antisymm}
use Rattle.frame.specs.DeclaredCells.{nothing_declared}
use Rattle.lists.proofs.Tabulated.{every-zero, every-suc}
use Rattle.erasures.proofs.cells.nothing.Goals as goal

pub loop-word-init : goal.loop-word-init
loop-word-init c = rw every-zero

pub loop-word-preserved : goal.loop-word-preserved
loop-word-preserved c = rw (add-one, every-suc, c.loop-word.invariant)

pub returns : goal.returns
unfolding nothing_declared
returns c = rw (c.loop-word.invariant, le_antisymm c.loop-word.auto.word-index-end c.loop-word-test.false)
