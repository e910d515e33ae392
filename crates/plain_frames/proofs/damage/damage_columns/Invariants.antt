-- `plain_frames::damage::damage_columns` meets its contract.
use Rattle.plain_frames.specs.Frames.{DamagedBy}
use Rattle.plain_frames.proofs.damage.damage_columns.Given as goal

abbrev pub invariant-loop-i : goal.invariant-loop-i
invariant-loop-i l =
    DamagedBy l.factors l.columns l.rows l.order l.i-index l.initial.frame l.frame
