-- `brute::shortest::pose` meets its contract.
use Rattle.std.proofs.Common.{◌≤◌}
use Rattle.plain.specs.Plain.{before}
use Rattle.plain.specs.Written.{Wrote}
use Rattle.brute.proofs.shortest.pose.Given as goal

abbrev pub invariant-loop-k : goal.invariant-loop-k
invariant-loop-k l = (l.k ≤ l.n) × Wrote l.initial.table l.table 0 l.k (before l.s l.j)
