-- `brute::erasures::pose_sum` meets its contract.
use Rattle.std.proofs.Common.{◌+◌}
use Rattle.plain.specs.Written.{Wrote}
use Rattle.brute.specs.Erasures.{sum_equation}
use Rattle.brute.proofs.erasures.pose_sum.Given as goal

abbrev pub invariant-loop-k : goal.invariant-loop-k
invariant-loop-k l =
    Wrote l.initial.table l.table 1 (l.k + 1) (sum_equation l.list l.sum l.step)
