-- `plain_frames::damage::mix` meets its contract.
use mathlib.Core.Path.{◌≡◌}
use Prim.Native.Nat.{◌≤◌}
use lib.ListN.{length}
use Rattle.plain_frames.specs.Frames.{Different}
use Rattle.plain_frames.proofs.damage.mix.Given as goal

abbrev pub invariant-loop-i : goal.invariant-loop-i
invariant-loop-i l =
    (length l.order ≡ length l.initial.order) × (l.n ≤ length l.initial.order → Different l.n l.n l.initial.order → Different l.n l.n l.order)
