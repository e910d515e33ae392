-- `plain_frames::damage::number` meets its contract.
use Prim.Native.Nat.{◌≤◌}
use Rattle.plain.specs.Written.{Wrote}
use Rattle.plain_frames.proofs.damage.number.Given as goal

abbrev pub invariant-loop-i : goal.invariant-loop-i
invariant-loop-i l = (l.i ≤ l.n) × Wrote l.initial.order l.order 0 l.i (λ k. k)
