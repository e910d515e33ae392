-- `plain::counting::advance` meets its contract.
use Rattle.std.proofs.Common.{◌≤◌}
use Rattle.plain.specs.Counting.{Carried}
use Rattle.plain.proofs.counting.advance.Given as goal

abbrev pub invariant-loop-i : goal.invariant-loop-i
invariant-loop-i l = (l.from ≤ l.i) × (l.from ≤ l.to → l.i ≤ l.to) × Carried l.p l.initial.a l.a l.from l.i
