-- `division::rows::data_cells` meets its contract.
use Rattle.lists.proofs.DataCells.{data_cell}
use Rattle.lists.proofs.Filling.{Filled}
use Rattle.lists.proofs.Zeros.{zeros}
use Rattle.division.proofs.rows.data_cells.Given as goal

abbrev pub invariant-loop-i : goal.invariant-loop-i
invariant-loop-i l = Filled (data_cell l.row l.m) (zeros 256) l.i l.cells
