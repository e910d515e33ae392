-- `brute::locator::mark` meets its contract.
use Rattle.std.proofs.Common.{◌≤◌}
use Rattle.brute.proofs.Marks.{MarkedTo}
use Rattle.brute.proofs.locator.mark.Given as goal

abbrev pub invariant-loop-i : goal.invariant-loop-i
invariant-loop-i l = (l.i ≤ l.columns) × MarkedTo l.n l.initial.table l.table l.initial.named l.named l.i
