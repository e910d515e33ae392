-- `remaining::completable::is_completable` meets its contract.
use Rattle.frame.specs.DeclaredCells.{declared_by}
use Rattle.remaining.proofs.RowsCompletable.{TestedBefore}
use Rattle.remaining.proofs.completable.is_completable.Given as goal

abbrev pub invariant-loop-h : goal.invariant-loop-h
invariant-loop-h l = TestedBefore l.s (declared_by l.declared) l.marked l.sums l.h l.at
