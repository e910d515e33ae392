use native.Mathlib.Omega.{arith}
use Rattle.lists.proofs.Filling.{filled_none, filled_more, filled-all}
use Rattle.butterflies.proofs.ButterflyLaws.{butterfly-four}
use Rattle.butterflies.proofs.stage.last.Goals as goal

pub loop-l-init : goal.loop-l-init
loop-l-init c = filled_none _ _

pub loop-l-preserved : goal.loop-l-preserved
loop-l-preserved c =
    let (ea, eb, ec, ed) = c.four-a.ensures in
    filled_more _ _ c.loop-l.l _ c.loop-l.sum-items c.loop-l.invariant (omega arith)
    (butterfly-four _ _ c.loop-l.l _ _ _ _ ea eb ec ed 0 _ c.together.ensures)

pub returns : goal.returns
returns c = filled-all _ _ _ _ c.loop-l.invariant (omega arith)
