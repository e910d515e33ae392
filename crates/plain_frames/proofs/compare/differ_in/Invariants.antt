-- `plain_frames::compare::differ_in` meets its contract.
use mathlib.Core.Logic.{◌↔◌}
use mathlib.Core.Path.{◌≡◌}
use Prim.Native.Nat.{ℕ, ◌≤◌, ◌<◌}
use lib.ListN.{get_or}
use Rattle.plain_frames.specs.Frames.{row}
use Rattle.plain.specs.Plain.{Each}
use Rattle.plain_frames.proofs.compare.differ_in.Given as goal

abbrev pub invariant-loop-i : goal.invariant-loop-i
invariant-loop-i l =
    (l.i ≤ l.columns)
    × Each 0 l.i (λ k. (get_or l.marks k 0 ≡ 1) ↔ ((h : ℕ) × (h < l.rows) × (get_or (row l.a l.columns h) k 0 ≡ get_or (row l.b l.columns h) k 0 → ⊥)))
