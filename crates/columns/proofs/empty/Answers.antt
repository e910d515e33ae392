-- `columns::empty` meets its contract.
use Rattle.columns.proofs.Marks.{none-marked}
use Rattle.columns.proofs.empty.Goals as goal

pub returns : goal.returns
returns c = none-marked
