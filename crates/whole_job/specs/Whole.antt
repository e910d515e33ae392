-- A job as one value, as a head beside its arrays.
use Rattle.std.specs.Prelude.{Result, Ok, Err}
use Rattle.job.specs.Answers.{shape_outcome}
use Rattle.job.specs.Calls.{Outcome}
use Rattle.job.specs.Job as Model
use Rattle.job.specs.Job.{Arrays, beside}
use Rattle.job.specs.declared.Answered as Library
use Rattle.refusal.specs.declared.Refusal.{Refusal}
use Rattle.whole_job.specs.declared.Answered.{Answered}
use Rattle.whole_job.specs.declared.Job.{Job}
use Rattle.slices.specs.Synthesis as Slices
use Rattle.slices.specs.Synthesis.{synthesis}
use Rattle.whole_job.specs.declared.Synthesis.{Synthesis}

abbrev pub synthesis_of : Synthesis → Slices.Synthesis
synthesis_of x =
    synthesis x.counts x.lengths x.symbols x.places x.sizes x.discs x.quotients x.register x.saved

abbrev pub arrays_of : Job → Arrays
arrays_of j = record { sums = j.sums; taps = j.taps; declared = j.declared; synthesis = synthesis_of j.synthesis }

abbrev pub job_of : Job → Model.Job
job_of j = beside j.head (arrays_of j)

-- what shape does with the job j: the whole job that it returns, where it does not refuse, and else j
abbrev pub shaped_outcome : Job → Result Job Refusal → Outcome
shaped_outcome j (Ok i) = shape_outcome (job_of i) (Ok i.head)
shaped_outcome j (Err why) = shape_outcome (job_of j) (Err why)

-- what the library's calls return
abbrev pub answered_of : Answered → Library.Answered
answered_of r = record { reply = r.reply; columns = r.columns; tried = r.tried; head = r.job.head }
