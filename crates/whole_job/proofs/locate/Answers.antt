-- `whole_job::locate` meets its contract.
use mathlib.Core.Path.{ap₂, ◌∙◌}
use Rattle.job.specs.Answers.{answered_outcome}
use Rattle.whole_job.specs.Whole.{arrays_of}
use Rattle.whole_job.proofs.locate.Goals as goal

pub returns : goal.returns
returns c = ap₂ (λ r a. answered_outcome r a c.args.frame.now) c.with_arrays.ensures.0 c.with_arrays.ensures.1 ∙ c.locate-answer.ensures (arrays_of c.args.j)
