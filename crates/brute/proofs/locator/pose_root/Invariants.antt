-- `brute::locator::pose_root` meets its contract.
use Rattle.std.proofs.Common.{◌≡◌, ◌%◌, ◌^◌, ◌≤◌}
use Rattle.plain.specs.Written.{Wrote}
use Rattle.brute.proofs.locator.pose_root.Given as goal

abbrev pub invariant-loop-k : goal.invariant-loop-k
invariant-loop-k l = (l.k ≤ l.n) × (l.v ≡ l.y ^ l.k % 257) × Wrote l.initial.table l.table 0 l.k (λ m. l.y ^ m % 257)
