-- `shapes::symbols::all_below` meets its contract.
use Rattle.std.proofs.Common.{◌≡◌, get_or}
use lib.Dec.{ltb}
use Rattle.lists.specs.Tabulate.{every}
use Rattle.shapes.proofs.symbols.all_below.Given as goal

abbrev pub invariant-loop-cell : goal.invariant-loop-cell
invariant-loop-cell l = l.all ≡ every l.cell-index (λ k. ltb (get_or l.cells k 0) 257)
