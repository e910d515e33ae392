-- `erasures::cells::cells_of` meets its contract.
use mathlib.Core.Path.{ap}
use mathlib.Core.List.{List}
use Prim.Native.Nat.{ℕ, ◌*◌}
use native.Mathlib.Omega.{arith}
use Rattle.columns.specs.declared.Columns.{Columns}
use Rattle.lists.proofs.Fours.{four-entries}
use Rattle.erasures.proofs.cells.cells_of.Goals as goal

abbrev of_words : List ℕ → Columns
of_words words = record { words = words }

pub returns : goal.returns
returns c = ap of_words (four-entries c.args.declared.now (4 * c.args.h) (omega arith))
