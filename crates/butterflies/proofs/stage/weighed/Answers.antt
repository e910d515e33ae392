-- `butterflies::stage::weighed` meets its contract.
use mathlib.Core.Path.{ap, ◌∙◌}
use Prim.Native.Nat.{ℕ, ◌%◌}
use Rattle.field257.proofs.MontgomeryProduct.{montgomery-is}
use Rattle.butterflies.proofs.stage.weighed.Goals as goal

pub returns : goal.returns
returns c =
    record { same = ap (λ (v : ℕ). v % 257) c.product.ensures.equals ∙ montgomery-is _ _; bounded = c.product.ensures.bounded }
