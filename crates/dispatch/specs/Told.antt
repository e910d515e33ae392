-- What the dispatcher tells and leaves, by the definitions of eight jobs: the contracts of its calls and of the turn.
use Rattle.std.specs.Prelude.{◌≡◌, List, [], ℕ, Result}
use Rattle.columns.specs.declared.Columns.{Columns}
use Rattle.eight_jobs.specs.Eight.{jobs}
use Rattle.job.specs.Answers.{checked_answer, reply_answer, peeked_answer}
use Rattle.job.specs.Calls.{Call, Answer, refused, Outcome}
use Rattle.job.specs.Job.{no_columns}
use Rattle.job.specs.Refusals.{lent_to}
use Rattle.kept.specs.Kept.{Kept, jobs_of, kept_after}
use Rattle.refusal.specs.declared.Refusal.{Refusal}
use Rattle.turns.specs.Dispatcher.{on, turn, Reply, says, refused_33, reply}
use Rattle.dispatch.specs.declared.Said.{Said}
use Rattle.dispatch.specs.declared.Turned.{Turned}

-- all of an outcome but the job: what is answered, the columns beside it, how many were tried, and the lent frame as it is left
pub record Told : Type 0 where
  pub answer : Answer
  pub marks : Columns
  pub tried : ℕ
  pub frame : List ℕ

abbrev pub told_by : Outcome → Told
told_by o = record { answer = o.answer; marks = o.marks; tried = o.tried; frame = o.frame }

-- refusal 33, with the frame as it was lent
abbrev pub nobody : (lent : List ℕ) → Told
nobody lent = record { answer = refused 33; marks = no_columns; tried = 0; frame = lent }

-- what is told of a call
abbrev pub told : Call → Reply jobs → Told
told c (says k o) = told_by o
told c refused_33 = nobody (lent_to c)

-- what a turn tells: the number of the job, 8 where none is served, and what its step said
pub record TurnTold : Type 0 where
  pub job : ℕ
  pub said : Told

abbrev pub turn_told : Reply jobs → TurnTold
turn_told (says k o) = record { job = k; said = told_by o }
turn_told refused_33 = record { job = 8; said = nobody [] }

-- ---- what the functions return

-- of shape and encode
abbrev pub checked_told : Result (Unit {0}) Refusal → (frame : List ℕ) → Told
checked_told v f = record { answer = checked_answer v; marks = no_columns; tried = 0; frame = f }

-- of locate, repair, start and step
abbrev pub said_told : Said → (frame : List ℕ) → Told
said_told r f = record { answer = reply_answer r.reply; marks = r.columns; tried = r.tried; frame = f }

abbrev pub peeked_told : Result ℕ Refusal → Told
peeked_told r = record { answer = peeked_answer r; marks = no_columns; tried = 0; frame = [] }

abbrev pub turned_told : Turned → TurnTold
turned_told r = record { job = r.job; said = said_told r.said [] }

-- ---- the contracts

-- a call c with the number k tells t, and leaves q where p was kept
pub record Does (p : Kept) (k : ℕ) (c : Call) (t : Told) (q : Kept) : Type 0 where
  pub tells : t ≡ told c (reply jobs (jobs_of p) (on k c))
  pub leaves : q ≡ kept_after p (on k c)

-- a turn tells t, and leaves q where p was kept
pub record Turns (p : Kept) (t : TurnTold) (q : Kept) : Type 0 where
  pub tells : t ≡ turn_told (reply jobs (jobs_of p) turn)
  pub leaves : q ≡ kept_after p turn
