-- `remaining::row::remaining` meets its contract.
use Rattle.remaining.proofs.RowLeft.{Multiplied}
use Rattle.remaining.proofs.row.remaining.Given as goal

abbrev pub invariant-loop-k : goal.invariant-loop-k
invariant-loop-k l = Multiplied l.f l.sums l.e l.n l.k l.totals
