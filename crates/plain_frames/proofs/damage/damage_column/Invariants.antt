-- `plain_frames::damage::damage_column` meets its contract.
use Prim.Native.Nat.{◌≤◌}
use Rattle.plain_frames.specs.Frames.{Struck}
use Rattle.plain_frames.proofs.damage.damage_column.Given as goal

abbrev pub invariant-loop-h : goal.invariant-loop-h
invariant-loop-h l = (l.h ≤ l.rows) × Struck l.columns l.h l.i l.factors l.initial.frame l.frame
