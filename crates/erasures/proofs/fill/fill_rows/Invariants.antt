-- `erasures::fill::fill_rows` meets its contract.
use Rattle.erasures.proofs.RowsFilled.{RowsFilled}
use Rattle.erasures.proofs.fill.fill_rows.Given as goal

abbrev pub invariant-loop-h : goal.invariant-loop-h
invariant-loop-h l = RowsFilled l.s l.declared l.marked l.sums l.initial.frame l.h l.at l.frame
