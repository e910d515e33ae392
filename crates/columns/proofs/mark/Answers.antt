-- `columns::mark` meets its contract.
use Rattle.columns.specs.Columns.{marking}
use Rattle.columns.proofs.Words.{marked-is}
use Rattle.columns.proofs.mark.Goals as goal

pub returns : goal.returns
returns c = marked-is (marking c.args.words.now) c.requires.1 c.args.i c.requires.0
