use Rattle.columns.proofs.Coming.{all-coming}
use Rattle.columns.proofs.Columns.members.Goals as goal

pub returns : goal.returns
returns c = all-coming c.args.self
