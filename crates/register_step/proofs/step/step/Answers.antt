-- `step` makes a step on the parts.
use mathlib.Core.Path.{◌∙◌}
use native.Mathlib.Omega.{arith}
use Rattle.register_step.proofs.Steps.{change_asks, step-rests, step-changes}
use Rattle.register_step.proofs.step.step.Goals as goal

pub returns-then-d-eq0 : goal.returns-then-d-eq0
returns-then-d-eq0 c = step-rests _ _ _ _ _ _ (c.residue-d.ensures ∙ rw c.from.ensures at c.due-sum.ensures.p_value) c.if-d-eq0.true

pub change-state-requires-clause-changeable : goal.change-state-requires-clause-changeable
change-state-requires-clause-changeable c =
    let pre = c.requires in
    let due = rw c.from.ensures at c.due-sum.ensures.p_value in
    change_asks pre.steppable (omega (arith, pre.worked_out.taken.two_or_more)) _ c.residue-d.ensures due c.if-d-eq0.false

pub returns : goal.returns
returns c =
    c.change-state.ensures ∙ step-changes _ _ _ _ _ _ (c.residue-d.ensures ∙ rw c.from.ensures at c.due-sum.ensures.p_value) c.if-d-eq0.false
