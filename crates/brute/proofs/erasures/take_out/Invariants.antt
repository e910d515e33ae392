-- `brute::erasures::take_out` meets its contract.
use Rattle.std.proofs.Common.{◌≤◌, get_or}
use Rattle.plain.specs.Written.{Wrote}
use Rattle.brute.specs.Erasures.{without_column}
use Rattle.brute.proofs.erasures.take_out.Given as goal

abbrev pub invariant-loop-j : goal.invariant-loop-j
invariant-loop-j l = (l.j ≤ l.n) × Wrote l.initial.sums l.sums 0 l.j (without_column l.i (λ k. get_or l.initial.sums k 0))
