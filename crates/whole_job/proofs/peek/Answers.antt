-- `whole_job::peek` meets its contract.
use Rattle.whole_job.proofs.peek.Goals as goal

pub returns : goal.returns
returns c = c.peek.ensures _
