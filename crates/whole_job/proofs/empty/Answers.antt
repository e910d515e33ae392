-- `whole_job::empty` meets its contract.
use mathlib.Core.Path.{ap}
use Rattle.job.specs.Job.{beside, no_arrays}
use Rattle.job.specs.declared.Head.{Head}
use Rattle.whole_job.proofs.empty.Goals as goal

pub returns : goal.returns
returns c = ap (λ (h : Head). beside h no_arrays) c.empty.ensures
