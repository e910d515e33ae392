-- `completion::mend::mend_column` meets its contract.
use Rattle.completion.proofs.ColumnMending.{Mended}
use Rattle.completion.proofs.mend.mend_column.Given as goal

abbrev pub invariant-loop-h : goal.invariant-loop-h
invariant-loop-h l = Mended l.s l.coefficients l.sums l.i l.initial.frame l.h l.at l.frame
