-- What locate and repair return, made of its parts.
use Rattle.std.specs.Prelude.{ℕ, Ok, Err}
use Rattle.columns.specs.declared.Columns.{Columns}
use Rattle.frame.specs.declared.Shape.{Shape}
use Rattle.job.specs.Job.{no_columns, shaped_head, located_head}
use Rattle.job.specs.declared.Answered.{Answered}
use Rattle.job.specs.declared.Head.{Head}
use Rattle.job.specs.declared.Progress.TheVariants as Progress
use Rattle.refusal.specs.declared.Refusal.{Refusal}

-- a refusal, with the head j that is left
abbrev pub refusal : Head → Refusal → Answered
refusal j why = record { reply = Err why; columns = no_columns; tried = 0; head = j }

-- the c columns J, found when t were tried, with the head of the job that holds what was found
abbrev pub found : Shape → (c : ℕ) (J : Columns) (t : ℕ) → Answered
found s c J t = record { reply = Ok (Progress.Columns c); columns = J; tried = t; head = located_head s c J }

-- the c columns J mended, with a shaped head
abbrev pub repair : Shape → (c : ℕ) (J : Columns) → Answered
repair s c J = record { reply = Ok (Progress.Columns c); columns = J; tried = 0; head = shaped_head s }
