-- `codec::sums::is_little` meets its contract.
use Prim.Native.Nat.{◌*◌, ◌≤◌}
use Rattle.codec.proofs.sums.is_little.Given as goal

abbrev pub invariant-loop-count : goal.invariant-loop-count
invariant-loop-count l = l.checks ≤ 65535 * l.count-index
