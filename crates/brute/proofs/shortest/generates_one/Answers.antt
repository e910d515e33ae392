use Rattle.std.proofs.Common.{sym, refl, ◌∙◌, arith}
use Rattle.plain.proofs.Tests.{each_none, each_more, each-fails, each_holds}
use Rattle.brute.proofs.shortest.generates_one.Goals as goal

pub returns-then-s-l : goal.returns-then-s-l
returns-then-s-l c = each_holds _ _ _ c.args.l (omega arith) (each_none _ _)

pub loop-j-init : goal.loop-j-init
loop-j-init c = (refl, omega arith, each_none _ _)

pub returns-then-discrepancy-ne0 : goal.returns-then-discrepancy-ne0
returns-then-discrepancy-ne0 c =
    each-fails _ _ _ c.loop-j.j c.loop-j.invariant.1 (omega arith) (λ e. c.if-discrepancy-ne0.true (c.discrepancy.ensures ∙ e))

pub loop-j-preserved : goal.loop-j-preserved
loop-j-preserved c =
    (refl, omega arith, each_more _ _ _ c.loop-j.invariant.2 (sym c.discrepancy.ensures ∙ c.if-discrepancy-ne0.false))

pub returns : goal.returns
returns c = each_holds _ _ _ _ (omega arith) c.loop-j.invariant.2
