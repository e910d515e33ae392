use mathlib.Core.Path.{ap, ◌∙◌}
use Prim.Native.Nat.{ℕ, ◌*◌, ◌%◌}
use native.Mathlib.Omega.{arith}
use Rattle.lists.proofs.Filling.{filled_none, filled_more, filled-rest}
use Rattle.weights.proofs.scale.Goals as goal

pub loop-entry-init : goal.loop-entry-init
loop-entry-init c = filled_none _ _

pub loop-entry-preserved : goal.loop-entry-preserved
loop-entry-preserved c =
    filled_more _ _ _ _ _ c.loop-entry.invariant (omega arith)
    (ap (λ (v : ℕ). (v * c.args.c) % 257)
    (c.from.ensures ∙ filled-rest _ _ _ _ c.loop-entry.invariant c.loop-entry.entry-index (omega arith) (omega arith)))
