use native.Mathlib.Omega.{arith}
use Rattle.reader.specs.Fields.{field_of}
use Rattle.reader.proofs.Filling.{filled_none, filled_more}
use Rattle.reader.proofs.fields.Goals as goal

pub loop-k-init : goal.loop-k-init
loop-k-init c = filled_none _ _

pub loop-k-preserved : goal.loop-k-preserved
unfolding field_of
loop-k-preserved c = filled_more _ _ c.loop-k.out c.loop-k.k _ (omega arith) c.pair.ensures (omega arith) c.loop-k.invariant
