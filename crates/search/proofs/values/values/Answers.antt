use Rattle.search.proofs.Valuing.{valued_none, valued_more}
use Rattle.search.proofs.values.values.Goals as goal

pub loop-tap-init : goal.loop-tap-init
loop-tap-init c = valued_none _ _

pub loop-tap-preserved : goal.loop-tap-preserved
loop-tap-preserved c =
    valued_more _ _ c.loop-tap.tap-index _ _ c.light.result c.loop-tap.invariant c.loop-tap-test.true c.light.ensures.same c.step.ensures
