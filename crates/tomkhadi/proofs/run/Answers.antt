use mathlib.Core.Path.{sym, ◌∙◌}
use native.Mathlib.Omega.{arith}
use borrow.Author.Rules.{rules}
use Rattle.tomkhadi.proofs.Running.{running_none, running-on, over, used-up, broken}
use Rattle.tomkhadi.proofs.run.Goals as goal

pub loop-turns-init : goal.loop-turns-init
loop-turns-init c = record { made = running_none _; inside = search rules }

pub returns-in_err-w-clause-err : goal.returns-in_err-w-clause-err
returns-in_err-w-clause-err c = broken _ _ _ c.loop-turns.invariant.made c.loop-turns-test.true _ _ c.in_err-w.ensures.err _

pub loop-turns-preserved : goal.loop-turns-preserved
loop-turns-preserved c =
    let turned = c.in_ok-w.ensures.ok in
    let goes = sym c.is_over.ensures ∙ c.if-is_over.false in
    record { made = running-on _ _ _ c.loop-turns.invariant.made _ _ _ turned (omega arith) goes; inside = turned.inside }

pub returns-after-loop-turns-clause-ok : goal.returns-after-loop-turns-clause-ok
returns-after-loop-turns-clause-ok c = used-up _ _ _ c.loop-turns.invariant.made (omega arith)

pub returns-then-is_over-clause-ok : goal.returns-then-is_over-clause-ok
returns-then-is_over-clause-ok c =
    over _ _ _ c.loop-turns.invariant.made _ _ _ c.in_ok-w.ensures.ok (sym c.is_over.ensures ∙ c.if-is_over.true)
