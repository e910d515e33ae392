-- `plain_frames::compare::same_columns` meets its contract.
use mathlib.Core.Logic.{◌↔◌}
use mathlib.Core.Path.{◌≡◌}
use Prim.Native.Nat.{◌≤◌}
use lib.ListN.{get_or}
use Rattle.plain_frames.specs.Frames.{marked}
use Rattle.plain.specs.Plain.{Each}
use Rattle.plain_frames.proofs.compare.same_columns.Given as goal

abbrev pub invariant-loop-i : goal.invariant-loop-i
invariant-loop-i l = (l.i ≤ 256) × Each 0 l.i (λ k. (marked l.set.words k ≡ 1) ↔ (get_or l.marks k 0 ≡ 1))
