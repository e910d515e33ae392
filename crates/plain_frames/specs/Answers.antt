-- What an answer of the library comes to where a refusal is told by its number.
use Rattle.std.specs.Prelude.{ℕ, Result, Ok, Err}
use Rattle.job.specs.declared.Progress.{Progress}
use Rattle.job.specs.declared.Progress.TheVariants.{Columns, Unfinished}
use Rattle.refusal.specs.Number.{number}
use Rattle.refusal.specs.declared.Refusal.{Refusal}

abbrev pub told : {A : Type 0} → Result A Refusal → Result A ℕ
told (Ok x) = Ok x
told (Err r) = Err (number r)

-- the number of columns, 0 where a locate is unfinished
abbrev pub told_columns : Result Progress Refusal → Result ℕ ℕ
told_columns (Ok (Columns n)) = Ok n
told_columns (Ok Unfinished) = Ok 0
told_columns (Err r) = Err (number r)
