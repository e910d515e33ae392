-- `elimination::value` meets its contract.
use mathlib.Core.Path.{ap, ◌∙◌}
use Prim.Native.Nat.{ℕ}
use lib.ListN.{get_or}
use Rattle.elimination.proofs.value.Goals as goal

pub returns : goal.returns
returns c = c.get.ensures ∙ ap (λ (m : ℕ). get_or c.args.table.now m 0) c.place.ensures
