-- `dispatch::answers::still_unfinished` meets its contract.
use mathlib.Core.Path.{ap}
use mathlib.Core.List.{[]}
use Rattle.columns.specs.declared.Columns.{Columns}
use Rattle.job.specs.Calls.{unfinished}
use Rattle.job.specs.Job.{no_columns}
use Rattle.dispatch.proofs.answers.still_unfinished.Goals as goal

pub returns : goal.returns
unfolding no_columns
returns c = ap (λ (J : Columns). record { answer = unfinished; marks = J; tried = 0; frame = [] }) c.empty.ensures
