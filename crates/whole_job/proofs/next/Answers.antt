-- `whole_job::next` meets its contract.
use mathlib.Core.Path.{ap₂, ◌∙◌}
use mathlib.Core.List.{[]}
use Rattle.job.specs.Answers.{answered_outcome}
use Rattle.whole_job.proofs.next.Goals as goal

pub returns : goal.returns
returns c = ap₂ (λ r a. answered_outcome r a []) c.with_arrays.ensures.0 c.with_arrays.ensures.1 ∙ c.next-answer.ensures
