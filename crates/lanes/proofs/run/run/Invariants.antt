-- `lanes::run::run` meets its contract.
use Rattle.lanes.proofs.Running.{Running}
use Rattle.lanes.proofs.run.run.Given as goal

abbrev pub invariant-loop-k : goal.invariant-loop-k
invariant-loop-k l = Running l.m l.f l.sums l.x l.z l.k l.q l.values l.totals
