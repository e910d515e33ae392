use mathlib.Core.Path.{◌∙◌}
use native.Mathlib.Omega.{arith}
use Rattle.lists.proofs.Filling.{filled_none, filled_more, filled-all}
use Rattle.frame.specs.Frame.{check_sums}
use Rattle.frame.proofs.CheckSums.{check_sum-value}
use Rattle.codec.proofs.sums.plain_sums.Goals as goal

pub loop-k-init : goal.loop-k-init
loop-k-init c = filled_none _ _

pub loop-k-preserved : goal.loop-k-preserved
loop-k-preserved c =
    filled_more _ _ c.loop-k.k c.value_at.result c.loop-k.sums c.loop-k.invariant (omega arith)
    (c.value_at.ensures.equals ∙ check_sum-value _ _ c.loop-k.k)

pub returns : goal.returns
unfolding check_sums
returns c = filled-all _ _ _ _ c.loop-k.invariant (omega arith)
