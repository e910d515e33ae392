-- `weights::read::read_off` meets its contract.
use Rattle.weights.proofs.ReadSum.{Read}
use Rattle.weights.proofs.read.read_off.Given as goal

abbrev pub invariant-loop-k : goal.invariant-loop-k
invariant-loop-k l = Read l.coefficients l.sums l.k l.total
