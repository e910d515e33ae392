use mathlib.Core.Path.{sym, ◌∙◌}
use native.Mathlib.Omega.{arith}
use Rattle.plain.proofs.Tests.{each_none, each_more, each-fails, each_holds}
use Rattle.elimination.proofs.determined.Goals as goal

pub loop-k-init : goal.loop-k-init
loop-k-init c = (omega arith, each_none _ _)

pub returns-then-value-eq0 : goal.returns-then-value-eq0
returns-then-value-eq0 c =
    each-fails _ _ _ c.loop-k.k c.loop-k.invariant.0 (omega arith) (λ n. n (sym c.value.ensures ∙ c.if-value-eq0.true))

pub loop-k-preserved : goal.loop-k-preserved
loop-k-preserved c = (omega arith, each_more _ _ _ c.loop-k.invariant.1 (λ e. c.if-value-eq0.false (c.value.ensures ∙ e)))

pub returns : goal.returns
returns c = each_holds _ _ _ _ (omega arith) c.loop-k.invariant.1
