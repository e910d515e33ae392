-- `plain::values::set` meets its contract.
use Rattle.std.proofs.Common.{◌≤◌}
use Rattle.plain.specs.Written.{Wrote}
use Rattle.plain.proofs.values.set.Given as goal

abbrev pub invariant-loop-i : goal.invariant-loop-i
invariant-loop-i l = (l.i ≤ l.n) × Wrote l.initial.a l.a 0 l.i (λ k. l.v)
