-- `whole_job::repair` meets its contract.
use mathlib.Core.Path.{ap₂, ◌∙◌}
use Rattle.job.specs.Answers.{answered_outcome}
use Rattle.whole_job.specs.Whole.{arrays_of}
use Rattle.whole_job.proofs.repair.Goals as goal

pub returns : goal.returns
returns c = ap₂ (λ r a. answered_outcome r a c.repair-answer.new.frame) c.with_arrays.ensures.0 c.with_arrays.ensures.1 ∙ c.repair-answer.ensures (arrays_of c.args.j)
