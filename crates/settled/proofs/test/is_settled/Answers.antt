use mathlib.Core.Path.{sym, ◌∙◌}
use native.Mathlib.Omega.{arith}
use Rattle.lists.proofs.Tabulated.{every_of, every-fails}
use Rattle.settled.specs.Settled.{settled}
use Rattle.settled.proofs.test.is_settled.Goals as goal

pub returns-then-not-is_settled_in : goal.returns-then-not-is_settled_in
unfolding settled
returns-then-not-is_settled_in c =
    sym (every-fails _ _ c.loop-h.h c.loop-h-test.true (sym c.is_settled_in.ensures ∙ c.if-not-is_settled_in.true))

pub returns : goal.returns
unfolding settled
returns c = sym (every_of _ _ (λ h more. c.loop-h.invariant h (omega arith)))
