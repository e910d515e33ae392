-- `columns::size` meets its contract. The invariant: the marked columns of the words passed are counted.
use mathlib.Core.Path.{◌≡◌}
use Prim.Native.Nat.{◌*◌}
use Rattle.columns.specs.Columns.{has}
use Rattle.columns.specs.Listed.{count}
use Rattle.columns.proofs.size.Given as goal

abbrev pub invariant-loop-word : goal.invariant-loop-word
invariant-loop-word l = l.marked ≡ count (64 * l.word-index) (has l.fn.c)
