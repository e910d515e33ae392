-- `codec::sums::row_sums` meets its contract.
use mathlib.Core.Path.{◌∙◌}
use Rattle.codec.proofs.WeighedSums.{weighed-sums}
use Rattle.codec.proofs.sums.row_sums.Goals as goal

pub returns-in-Some : goal.returns-in-Some
returns-in-Some c = c.staged_sums.ensures ∙ weighed-sums _ _ _ _ (rw c.in-Some.is at c.requires.1) c.requires.0.narrow
