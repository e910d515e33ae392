-- `field257::powers::entry` meets its contract.
use mathlib.Core.List.{List}
use mathlib.Core.Path.{sym, ap, ◌∙◌}
use Prim.Native.Nat.{ℕ, ◌%◌}
use native.Mathlib.Nat.{mod-lt}
use native.Mathlib.Omega.{arith}
use lib.ListN.{get_or}
use Rattle.field257.proofs.Locators.{power-mod}
use Rattle.field257.proofs.PowerTable.{table-power}
use Rattle.field257.proofs.powers.entry.Goals as goal

pub returns-clause-power : goal.returns-clause-power
returns-clause-power c =
    let e = c.args.e in
    λ known. ap (λ (l : List ℕ). get_or l (e % 256) 0) known ∙ table-power (e % 256) (mod-lt e (omega arith)) ∙ sym (power-mod e)
