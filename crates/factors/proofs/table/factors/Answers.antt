-- `factors::table::factors` meets its contract: the whole table follows its rule, by one computed equation.
use mathlib.Core.Path.{refl}
use Rattle.lists.specs.Tabulate.{tabulate}
use Rattle.transform.specs.Stages.{factor_of}
use Rattle.factors.specs.Table.{factor_table}
use Rattle.factors.proofs.table.factors.Goals as goal

pub returns : goal.returns
unfolding factor_table factor_of tabulate
returns c = refl
