-- `plain::values::times` meets its contract.
use Rattle.std.proofs.Common.{ℕ, ap, ◌∙◌}
use Rattle.plain.specs.Plain.{rem}
use Rattle.plain.proofs.values.times.Goals as goal

pub returns : goal.returns
returns c = c.remainder.ensures ∙ ap (λ (x : ℕ). rem x c.args.p) c.product.ensures.0
