-- `whole_job::encode` meets its contract.
use Rattle.whole_job.specs.Whole.{arrays_of}
use Rattle.whole_job.proofs.encode.Goals as goal

pub returns : goal.returns
returns c = c.encode.ensures (arrays_of c.args.j)
