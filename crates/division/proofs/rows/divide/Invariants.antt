-- `division::rows::divide` meets its contract.
use Rattle.division.proofs.DivisionSteps.{Divided}
use Rattle.division.proofs.rows.divide.Given as goal

abbrev pub invariant-loop-i : goal.invariant-loop-i
invariant-loop-i l = Divided l.m l.generator l.initial.cells l.i l.cells
