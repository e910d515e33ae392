-- What the functions return, in the terms of the specification: the numbers and values of each answer, and with the job's arrays and the lent frame as they are
-- left the whole outcome of a call.
use Rattle.std.specs.Prelude.{List, [], ℕ, Result, Ok, Err}
use Rattle.refusal.specs.Number.{number}
use Rattle.refusal.specs.declared.Refusal.{Refusal}
use Rattle.job.specs.Calls.{Answer, done, columns, unfinished, shortest, refused, Outcome}
use Rattle.job.specs.Job.{Arrays, Job, beside, no_columns}
use Rattle.job.specs.declared.Answered.{Answered}
use Rattle.job.specs.declared.Head.{Head}
use Rattle.job.specs.declared.Progress.{Progress}
use Rattle.job.specs.declared.Progress.TheVariants.{Columns, Unfinished}

abbrev pub checked_answer : Result (Unit {0}) Refusal → Answer
checked_answer (Ok passed) = done
checked_answer (Err r) = refused (number r)

abbrev pub reply_answer : Result Progress Refusal → Answer
reply_answer (Ok (Columns c)) = columns c
reply_answer (Ok Unfinished) = unfinished
reply_answer (Err r) = refused (number r)

-- of shape, to which neither arrays nor a frame are lent: the head that is returned stands beside the arrays, and where it refuses the job is kept
abbrev pub shape_outcome : Job → Result Head Refusal → Outcome
shape_outcome j (Ok h) = record { answer = done; marks = no_columns; tried = 0; job = beside h j.arrays; frame = [] }
shape_outcome j (Err r) = record { answer = refused (number r); marks = no_columns; tried = 0; job = j; frame = [] }

-- of encode, which keeps the job
abbrev pub encode_outcome : Job → Result (Unit {0}) Refusal → (frame : List ℕ) → Outcome
encode_outcome j v frame = record { answer = checked_answer v; marks = no_columns; tried = 0; job = j; frame = frame }

-- of peek, which keeps the job and is lent no frame
abbrev pub peeked_answer : Result ℕ Refusal → Answer
peeked_answer (Ok l) = shortest l
peeked_answer (Err r) = refused (number r)

abbrev pub peek_outcome : Job → Result ℕ Refusal → Outcome
peek_outcome j r = record { answer = peeked_answer r; marks = no_columns; tried = 0; job = j; frame = [] }

-- of start, step, locate and repair
abbrev pub answered_outcome : Answered → Arrays → (frame : List ℕ) → Outcome
answered_outcome r a frame =
    record { answer = reply_answer r.reply; marks = r.columns; tried = r.tried; job = beside r.head a; frame = frame }
