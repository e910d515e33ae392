-- `dispatch::answers::no_job` meets its contract.
use mathlib.Core.Path.{ap}
use Rattle.columns.specs.declared.Columns.{Columns}
use Rattle.job.specs.Calls.{refused}
use Rattle.job.specs.Job.{no_columns}
use Rattle.dispatch.proofs.answers.no_job.Goals as goal

pub returns : goal.returns
unfolding no_columns
returns c =
    λ f. ap (λ (J : Columns). record { answer = refused 33; marks = J; tried = 0; frame = f }) c.empty.ensures
