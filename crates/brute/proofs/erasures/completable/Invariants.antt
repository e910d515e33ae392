-- `brute::erasures::completable` meets its contract.
use Rattle.std.proofs.Common.{◌≡◌, ◌+◌, ◌%◌, ◌^◌}
use Rattle.brute.proofs.Completing.{SumsGathered}
use Rattle.brute.proofs.erasures.completable.Given as goal

abbrev pub invariant-loop-sum : goal.invariant-loop-sum
invariant-loop-sum l =
    (l.step ≡ 3 ^ (l.exponent + l.sum-index) % 257) × SumsGathered l.exponent l.list l.sums l.sum-index l.initial.equations l.equations
