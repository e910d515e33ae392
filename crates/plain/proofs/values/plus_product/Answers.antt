-- `plain::values::plus_product` meets its contract.
use Rattle.std.proofs.Common.{ℕ, ◌+◌, ap₂, ◌∙◌}
use Rattle.plain.specs.Plain.{rem}
use Rattle.plain.proofs.values.plus_product.Goals as goal

pub returns : goal.returns
returns c = c.remainder.ensures ∙ ap₂ (λ (x y : ℕ). rem (x + y) c.args.p) c.from.ensures c.product.ensures.0
