-- `field257::inverses::inverses` meets its contract: the whole table follows its rule, by one computed equation.
use mathlib.Core.Path.{refl}
use Rattle.lists.specs.Tabulate.{tabulate}
use Rattle.field257.specs.Inverses.{inverse_table}
use Rattle.field257.proofs.inverses.inverses.Goals as goal

pub returns : goal.returns
unfolding inverse_table tabulate
returns c = refl
