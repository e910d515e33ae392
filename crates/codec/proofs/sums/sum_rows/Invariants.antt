-- `codec::sums::sum_rows` meets its contract.
use Rattle.frame.proofs.Held.{Held}
use Rattle.codec.proofs.sums.sum_rows.Given as goal

abbrev pub invariant-loop-h : goal.invariant-loop-h
invariant-loop-h l = Held l.s l.frame l.h l.at l.sums
