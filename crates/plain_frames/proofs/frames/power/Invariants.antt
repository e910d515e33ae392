-- `plain_frames::frames::power` meets its contract.
use mathlib.Core.Path.{◌≡◌}
use Prim.Native.Nat.{◌%◌, ◌^◌, ◌≤◌}
use Rattle.plain_frames.proofs.frames.power.Given as goal

abbrev pub invariant-loop : goal.invariant-loop
invariant-loop l = (l.counter ≤ l.e) × (l.r ≡ l.x ^ l.counter % 257)
