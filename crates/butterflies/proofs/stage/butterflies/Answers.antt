use native.Mathlib.Omega.{arith}
use Rattle.butterflies.proofs.ButterflyLaws.{written-four, butterfly-four, butterfly-back}
use Rattle.butterflies.proofs.stage.butterflies.Goals as goal

pub loop-l-preserved : goal.loop-l-preserved
loop-l-preserved c =
    let (ea, eb, ec, ed) = c.four-a.ensures in
    let four = butterfly-four _ _ c.loop-l.l _ _ _ _ ea eb ec ed in
    let back = butterfly-back _ _ c.loop-l.l _ _ _ _ ea eb ec ed in
    written-four _ _ c.loop-l.l _ _ _ _ c.loop-l.y c.loop-l.invariant (omega arith) (four 0 _ c.together.ensures)
    (four 1 _ c.turned.ensures) (four 2 _ c.alternating.ensures) (back _ c.turned-in-loop-l.ensures)
