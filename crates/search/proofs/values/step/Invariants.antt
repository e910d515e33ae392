-- `search::values::step` meets its contract.
use Rattle.search.proofs.Valuing.{Stepping}
use Rattle.search.proofs.values.step.Given as goal

abbrev pub invariant-loop-i : goal.invariant-loop-i
invariant-loop-i l = Stepping l.tap l.x l.initial.v l.i l.v
