-- `weights::divide` meets its contract.
use Rattle.weights.proofs.Division.{Divided}
use Rattle.weights.proofs.divide.Given as goal

abbrev pub invariant-loop-k : goal.invariant-loop-k
invariant-loop-k l = Divided l.f l.x l.initial.quotient l.k l.carry l.quotient
