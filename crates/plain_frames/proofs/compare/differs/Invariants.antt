-- `plain_frames::compare::differs` meets its contract.
use mathlib.Core.Path.{◌≡◌}
use Prim.Native.Nat.{◌≤◌}
use lib.ListN.{get_or}
use Rattle.plain_frames.specs.Frames.{row}
use Rattle.plain.specs.Plain.{Each}
use Rattle.plain_frames.proofs.compare.differs.Given as goal

abbrev pub invariant-loop-h : goal.invariant-loop-h
invariant-loop-h l = (l.h ≤ l.rows) × Each 0 l.h (λ k. get_or (row l.a l.columns k) l.i 0 ≡ get_or (row l.b l.columns k) l.i 0)
