use mathlib.Core.Path.{sym, ◌∙◌, refl}
use native.Mathlib.Omega.{arith}
use Rattle.plain.proofs.Tests.{each_none, each_more, each-fails, each_holds}
use Rattle.plain_frames.proofs.compare.same.Goals as goal

pub loop-i-init : goal.loop-i-init
loop-i-init c = (refl, omega arith, each_none _ _)

pub returns-then-get : goal.returns-then-get
returns-then-get c =
    each-fails _ _ _ c.loop-i.i c.loop-i.invariant.1 (omega arith)
    (λ e. c.if-get.true (c.get.ensures ∙ e ∙ sym c.get-in-loop-i.ensures))

pub loop-i-preserved : goal.loop-i-preserved
loop-i-preserved c = (
  refl,
  omega arith,
  each_more _ _ _ c.loop-i.invariant.2 (sym c.get.ensures ∙ c.if-get.false ∙ c.get-in-loop-i.ensures),
)

pub returns : goal.returns
returns c = each_holds _ _ _ _ (omega arith) c.loop-i.invariant.2
