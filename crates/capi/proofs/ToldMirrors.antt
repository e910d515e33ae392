-- What C is given of what the dispatcher tells, to the number.
use mathlib.Core.Path.{refl}
use Rattle.columns.specs.Columns.{columns_of, number}
use Rattle.job.specs.Job.{no_columns}
use Rattle.capi.specs.Dispatcher.{ToldMirrors}

pub told_mirrors : ToldMirrors
unfolding no_columns columns_of number
told_mirrors =
    record {
      refusal = λ o. refl;
      answered = λ o. refl;
      peeked = λ o. refl;
      frame = λ o. refl;
      turned = λ k o. refl;
      no-job = λ f. refl;
      no-job-answered = λ f. refl;
      no-job-peeked = λ f. refl;
      no-job-frame = λ c. refl;
      nobody-served = refl;
    }
