-- `single_step` makes a step on the parts.
use mathlib.Core.Path.{◌∙◌}
use Prim.Native.Nat.{ℕ}
use native.Mathlib.Omega.{arith}
use lib.ListN.{length-replicate, get_or-replicate}
use Rattle.register_step.proofs.Steps.{change_asks, step-rests, step-changes}
use Rattle.register_step.proofs.single.single_step.Goals as goal

pub returns-then-d-eq0 : goal.returns-then-d-eq0
returns-then-d-eq0 c = step-rests _ _ _ _ _ _ (c.residue-d.ensures ∙ c.due-sum.ensures.p_value) c.if-d-eq0.true

pub change-requires-clause-moduli : goal.change-requires-clause-moduli
change-requires-clause-moduli c =
    let p = c.args.f.p in
    record { width = length-replicate {A = ℕ} 144 p; each = λ i b. get_or-replicate {A = ℕ} 144 i p 0 b }

pub change-requires-clause-changeable : goal.change-requires-clause-changeable
change-requires-clause-changeable c =
    let pre = c.requires in
    change_asks pre.steppable (omega (arith, pre.worked_out.taken.two_or_more)) _ c.residue-d.ensures c.due-sum.ensures.p_value c.if-d-eq0.false

pub returns : goal.returns
returns c = c.change.ensures ∙ step-changes _ _ _ _ _ _ (c.residue-d.ensures ∙ c.due-sum.ensures.p_value) c.if-d-eq0.false
