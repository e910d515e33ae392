-- `mirror::answers::unfinished_of` meets its contract: no column is marked in four words that are 0.
use mathlib.Core.Path.{refl}
use Rattle.columns.specs.Columns.{columns_of, number}
use Rattle.job.specs.Job.{no_columns}
use Rattle.mirror.proofs.answers.unfinished_of.Goals as goal

pub returns : goal.returns
unfolding no_columns columns_of number
returns c b f = refl
