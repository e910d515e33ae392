-- `change` makes the change of the parts.
use mathlib.Core.Path.{ap, ◌∙◌}
use Prim.Native.Nat.{ℕ}
use native.Mathlib.Omega.{arith}
use Rattle.field.specs.Residue.{quotient as quotient_of}
use Rattle.register_step.proofs.Change.{by-sum, changed-stays, changed-grows}
use Rattle.register_step.proofs.changing.change.Goals as goal

pub returns-then-n-size : goal.returns-then-n-size
returns-then-n-size c =
    let pre = c.requires in
    let reduced = rw (c.from-place.ensures, c.from-size.ensures) at c.reduce.ensures in
    changed-stays _ _ _ _ _ (by-sum pre.changeable _ pre.loose.1 reduced) (omega arith)

pub returns : goal.returns
returns c =
    let pre = c.requires in
    let reduced = rw (c.from-place.ensures, c.from-size.ensures) at c.reduce_keeping.ensures.by_index in
    changed-grows _ _ _ _ _ (by-sum pre.changeable _ pre.loose.1 reduced) (omega arith)
    (c.quotient.ensures.equals ∙ ap (λ (x : ℕ). quotient_of c.args.f.p x c.args.d) pre.worked_out.unit)
    c.reduce_keeping.ensures.saved_after (omega arith)
