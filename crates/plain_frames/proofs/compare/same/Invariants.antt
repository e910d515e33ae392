-- `plain_frames::compare::same` meets its contract.
use mathlib.Core.Path.{◌≡◌}
use Prim.Native.Nat.{◌≤◌}
use lib.ListN.{length, get_or}
use Rattle.plain.specs.Plain.{Each}
use Rattle.plain_frames.proofs.compare.same.Given as goal

abbrev pub invariant-loop-i : goal.invariant-loop-i
invariant-loop-i l = (l.i-end ≡ length l.a) × (l.from ≤ l.i) × Each l.from l.i (λ k. get_or l.a k 0 ≡ get_or l.b k 0)
