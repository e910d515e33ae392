-- `brute::erasures::take_out_all` meets its contract.
use Rattle.brute.proofs.Erased.{TakenOut}
use Rattle.brute.proofs.erasures.take_out_all.Given as goal

abbrev pub invariant-loop-k : goal.invariant-loop-k
invariant-loop-k l = TakenOut l.list l.initial.sums l.n l.k l.sums
