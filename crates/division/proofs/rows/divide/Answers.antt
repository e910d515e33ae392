use Rattle.division.proofs.DivisionSteps.{divided_none, divided_more, divided_all, same_size, added-fits}
use Rattle.division.proofs.rows.divide.Goals as goal

pub loop-i-init : goal.loop-i-init
loop-i-init c = divided_none _ _ _ c.requires.reach c.requires.small

pub add_multiple-requires : goal.add_multiple-requires
add_multiple-requires c =
    let less = c.loop-i-test.true in (
      same_size _ _ _ c.requires.divisor c.loop-i.i _ c.loop-i.invariant less,
      added-fits _ _ _ c.requires.divisor c.loop-i.i _ c.loop-i.invariant less c.requires.narrow,
    )

pub loop-i-preserved : goal.loop-i-preserved
loop-i-preserved c =
    divided_more _ _ _ c.requires.divisor c.loop-i.i _ c.loop-i.invariant c.loop-i-test.true _
    c.add_multiple.ensures

pub returns : goal.returns
returns c = divided_all _ _ _ _ _ c.loop-i.invariant c.loop-i-test.false
