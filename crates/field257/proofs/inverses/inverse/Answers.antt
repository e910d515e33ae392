-- `field257::inverses::inverse` meets its contract.
use mathlib.Core.Path.{◌≡◌, ap, subst⁻¹, ◌∙◌}
use mathlib.Core.List.{List}
use Prim.Native.Nat.{ℕ, ◌<◌}
use native.Mathlib.Nat.{mod-lt}
use lib.Dec.{lit<}
use lib.ListN.{get_or}
use Rattle.field.specs.Residue.{inverse}
use Rattle.lists.proofs.Tabulated.{get_d_tabulate}
use Rattle.field257.specs.Inverses.{inverse_table}
use Rattle.field257.proofs.inverses.inverse.Goals as goal
use Rattle.field257.proofs.inverses.inverse.Goals.{After-from}

-- what is read is the inverse
read : (c : After-from) → c.from.result ≡ inverse 257 c.args.a
unfolding inverse_table
read c =
    c.from.ensures ∙ ap (λ (l : List ℕ). get_or l c.args.a 0) c.inverses-table.ensures
    ∙ get_d_tabulate 257 (inverse 257) c.args.a 0 c.requires

pub returns : goal.returns
returns c = record { equals = read c; below = subst⁻¹ (λ (r : ℕ). r < 257) (read c) (mod-lt _ (lit< tt)) }
