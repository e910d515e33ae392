-- `ahead` answers the discrepancies. The invariant: the products of the taps passed are taken off.
use Rattle.settled.proofs.Cells.{TakenOff}
use Rattle.settled.proofs.ahead.ahead.Given as goal

abbrev pub invariant-loop-i : goal.invariant-loop-i
invariant-loop-i l = TakenOff l.problem.f.p l.state.taps l.problem.symbols.now l.at l.end l.cells l.i
