-- `plain_frames::frames::row_sums` meets its contract.
use Prim.Native.Nat.{suc, ◌+◌, ◌-◌, ◌≤◌}
use Rattle.plain_frames.specs.Frames.{check_sum}
use Rattle.plain.specs.Written.{Wrote}
use Rattle.plain_frames.proofs.frames.row_sums.Given as goal

abbrev pub invariant-loop-j : goal.invariant-loop-j
invariant-loop-j l = (l.j ≤ l.n) × Wrote l.initial.sums l.sums l.at (l.at + l.j) (λ k. check_sum l.exponent l.row (suc (k - l.at)))
