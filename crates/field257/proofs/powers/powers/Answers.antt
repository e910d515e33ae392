-- `field257::powers::powers` meets its contract: the whole table follows its rule, by one computed equation.
use mathlib.Core.Path.{refl}
use Rattle.lists.specs.Tabulate.{tabulate}
use Rattle.field257.specs.Table.{entry_of, table}
use Rattle.field257.proofs.powers.powers.Goals as goal

pub returns : goal.returns
unfolding table entry_of tabulate
returns c = refl
