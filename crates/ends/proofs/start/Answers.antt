use mathlib.Core.Path.{◌∙◌, refl}
use Prim.Native.Nat.{ℕ}
use native.Mathlib.Omega.{arith}
use lib.ListN.{length-replicate}
use Rattle.lists.proofs.Filling.{filled-entry, filled_none, filled_more}
use Rattle.ends.proofs.start.Goals as goal

pub loop-h-init : goal.loop-h-init
loop-h-init c = filled_none _ _

pub loop-h-preserved : goal.loop-h-preserved
loop-h-preserved c =
    let at = c.loop-h in
    filled_more _ _ at.h _ at.places at.invariant (let s = at.invariant.size in omega arith) refl

pub returns : goal.returns
returns c =
    let at = c.loop-h in
    record { width = at.invariant.size ∙ length-replicate {A = ℕ} 8 0; place = λ h b. filled-entry _ _ _ _ at.invariant h (omega arith) }
