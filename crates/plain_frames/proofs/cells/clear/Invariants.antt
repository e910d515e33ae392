-- `plain_frames::cells::clear` meets its contract.
use mathlib.Core.Path.{◌≡◌}
use Prim.Native.Nat.{◌≤◌}
use Rattle.plain_frames.specs.Cells.{read_as}
use Rattle.plain.specs.Written.{Wrote}
use Rattle.plain_frames.proofs.cells.clear.Given as goal

abbrev pub invariant-loop-k : goal.invariant-loop-k
invariant-loop-k l =
    (l.k ≤ 2048) × (l.n ≡ l.columns) × Wrote l.initial.frame l.frame 0 l.k (read_as l.words l.columns l.initial.frame)
