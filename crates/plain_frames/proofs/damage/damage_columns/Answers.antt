use Rattle.std.proofs.Common.{refl, arith}
use Rattle.plain_frames.proofs.Striking.{damaged-none, damaged-more, damaged-all}
use Rattle.plain_frames.proofs.damage.damage_columns.Goals as goal

pub loop-i-init : goal.loop-i-init
loop-i-init c = damaged-none _ _ _ _ _

pub loop-i-preserved : goal.loop-i-preserved
loop-i-preserved c = damaged-more _ _ _ _ _ _ c.loop-i.invariant refl c.damage_column.ensures

pub returns : goal.returns
returns c = damaged-all _ _ _ _ _ _ c.loop-i.invariant (omega arith) (omega arith)
