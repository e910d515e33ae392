-- `plain::values::copy` meets its contract.
use Rattle.std.proofs.Common.{◌+◌, ◌-◌, get_or}
use Rattle.plain.specs.Written.{Wrote}
use Rattle.plain.proofs.values.copy.Given as goal

abbrev pub invariant-loop-i : goal.invariant-loop-i
invariant-loop-i l = Wrote l.initial.to l.to l.at (l.at + l.i) (λ k. get_or l.from (k - l.at) 0)
