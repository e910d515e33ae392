-- `remaining::rows::all_remaining` meets its contract.
use Rattle.frame.specs.DeclaredCells.{declared_by}
use Rattle.remaining.proofs.RowsLeft.{LeftBefore}
use Rattle.remaining.proofs.rows.all_remaining.Given as goal

abbrev pub invariant-loop-h : goal.invariant-loop-h
invariant-loop-h l = LeftBefore l.s (declared_by l.declared) l.sums l.h l.at l.count l.lengths l.symbols
