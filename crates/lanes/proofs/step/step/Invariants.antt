-- `lanes::step::step` meets its contract.
use Rattle.lanes.proofs.Stepping.{Stepping}
use Rattle.lanes.proofs.step.step.Given as goal

abbrev pub invariant-loop-i : goal.invariant-loop-i
invariant-loop-i l = Stepping l.n l.c l.s l.x l.z l.initial.q l.initial.v l.initial.t l.i l.q l.v l.t
