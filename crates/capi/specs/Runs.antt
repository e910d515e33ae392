-- Lists of calls through the C interface. Each inline function of include/tomkhadi.h is a step on the struct of a job, by what the exported function that it
-- calls promises; that the header's text is these steps is read, and tried by tests/. A list of steps answers and leaves what the list of calls does.
-- Proved in proofs/Runs.antt.
use Rattle.std.specs.Prelude.{◌≡◌, ◌⊎◌, List, [], ◌∷◌, ℕ}
use Rattle.job.specs.Calls.{Call, shape, encode, locate, repair, start, next, peek, Outcome, step}
use Rattle.job.specs.Runs.{run_from, run}
use Rattle.job.specs.Job.{Arrays, Job, beside, with_found, empty_head}
use Rattle.capi.specs.Exports.{HeadShapes, HeadEncodes, HeadLocates, HeadRepairs, HeadStarts, HeadSteps, HeadPeeks, arrays_of}
use Rattle.mirror.specs.Mirror.{head_of, mirror_of, refusal_of, peeked_of, answered_of}
use Rattle.mirror.specs.declared.CAnswer.{CAnswer}
use Rattle.mirror.specs.declared.CAnswered.{CAnswered}
use Rattle.mirror.specs.declared.CHead.{CHead}
use Rattle.mirror.specs.declared.CPeeked.{CPeeked}
use Rattle.mirror.specs.declared.CShaped.{CShaped}
use Rattle.slices.specs.Synthesis.{Synthesis, synthesis}

-- tomkhadi_job: the head, and the arrays beside it
pub record CJob : Type 0 where
  pub head : CHead
  pub arrays : Arrays

-- what a call returns: shape and encode the refusal or 0; locate, repair, start and step the struct of an answer; peek that of a length
pub data CReply : Type 0 where
  number : (refusal : ℕ) → CReply
  answer : CAnswer → CReply
  peeked : CPeeked → CReply

-- that, and the job and the lent frame as the call leaves them (no frame is lent to shape, step and peek: `[]`)
pub record CReturn : Type 0 where
  pub reply : CReply
  pub job : CJob
  pub frame : List ℕ

-- what a step leaves: the lengths and the symbols are const
abbrev pub step_left_of : (x y : Synthesis) → Synthesis
step_left_of x y =
    synthesis y.counts x.lengths x.symbols y.places y.sizes y.discs y.quotients y.taps y.saved

-- what a step does with the head that it is returned: it stores it, or, where the job stays unfinished and no column is marked, leaves the one that is there
abbrev pub StepStores : (before after : CHead) → CAnswered → Type 0
StepStores before after s =
    (after ≡ s.head) ⊎
    ((s.answer.unfinished ≡ 1) × (before.marks ≡ 0 ∷ 0 ∷ 0 ∷ 0 ∷ []) × (after ≡ before))

-- The inline functions: the exported function is called on the parts of the job, and gives anything that it promises; the head that it returns is stored, as
-- above by a step, and the answer returned. What is const is as it was, and so are arrays that are not lent.
abbrev pub CStep : CJob → Call → CReturn → Type 0
CStep m (shape n checks b) r =
    (s : CShaped) × HeadShapes m.head n checks b s ×
    (r ≡ record { reply = number s.refusal; job = record { head = s.head; arrays = m.arrays }; frame = [] })
CStep m (encode f) r =
    (k : ℕ) × (left : List ℕ) × HeadEncodes m.head f k left × (r ≡ record { reply = number k; job = m; frame = left })
CStep m (locate words f) r =
    (s : CAnswered) × (sums : List ℕ) × (taps : List ℕ) × (held : List ℕ) ×
    HeadLocates m.head m.arrays.sums m.arrays.taps m.arrays.declared words f s sums taps held ×
    (r ≡ record { reply = answer s.answer; job = record { head = s.head; arrays = with_found m.arrays sums taps held }; frame = f })
CStep m (repair f) r =
    (s : CAnswered) × (left : List ℕ) × HeadRepairs m.head m.arrays.sums m.arrays.declared f s left ×
    (r ≡ record { reply = answer s.answer; job = record { head = s.head; arrays = m.arrays }; frame = left })
CStep m (start words f) r =
    (s : CAnswered) × (sums : List ℕ) × (taps : List ℕ) × (held : List ℕ) × (y : Synthesis) ×
    HeadStarts m.head m.arrays.sums m.arrays.taps m.arrays.declared m.arrays.synthesis words f s sums taps held y ×
    (r ≡ record { reply = answer s.answer; job = record { head = s.head; arrays = arrays_of sums taps held y }; frame = f })
CStep m next r =
    let a : Arrays = m.arrays in
    (s : CAnswered) × (taps : List ℕ) × (y : Synthesis) × (head : CHead) × StepStores m.head head s ×
    HeadSteps m.head a.sums a.taps a.declared a.synthesis s taps (step_left_of a.synthesis y) ×
    (r ≡
    record {
      reply = answer s.answer;
      job = record { head = head; arrays = arrays_of a.sums taps a.declared (step_left_of a.synthesis y) };
      frame = [];
    })
CStep m peek r =
    (s : CPeeked) × HeadPeeks m.head m.arrays.sums m.arrays.declared m.arrays.synthesis s ×
    (r ≡ record { reply = peeked s; job = m; frame = [] })

-- the calls of a list, each on the job that the one before it left
abbrev pub CRun : CJob → List Call → CJob → Type 0
CRun m [] after = after ≡ m
CRun m (c ∷ cs) after = (r : CReturn) × CStep m c r × CRun r.job cs after

-- the head that tomkhadi_head_empty returns, beside arrays that may hold anything; tomkhadi_empty makes them zeros
abbrev pub emptied : Arrays → CJob
emptied a = record { head = mirror_of empty_head; arrays = a }

-- ---- what C sees of a job, of an answer, of an outcome

-- the job that a struct stands for, whatever its numbers are
abbrev pub job_of : CJob → Job
job_of m = beside (head_of m.head) m.arrays

-- the struct that a job is
abbrev pub mirror_job : Job → CJob
mirror_job j = record { head = mirror_of j.head; arrays = j.arrays }

abbrev pub reply_of : Call → Outcome → CReply
reply_of (shape n checks b) o = number (refusal_of o.answer)
reply_of (encode f) o = number (refusal_of o.answer)
reply_of (locate words f) o = answer (answered_of o).answer
reply_of (repair f) o = answer (answered_of o).answer
reply_of (start words f) o = answer (answered_of o).answer
reply_of next o = answer (answered_of o).answer
reply_of peek o = peeked (peeked_of o.answer)

abbrev pub return_of : Call → Outcome → CReturn
return_of c o = record { reply = reply_of c o; job = mirror_job o.job; frame = o.frame }

-- a call on a struct whatever its numbers are: it answers and leaves what the call does on the job that the struct stands for
pub record Given (m : CJob) (c : Call) (r : CReturn) : Type 0 where
  pub reply : r.reply ≡ reply_of c (step (job_of m) c)
  pub job : job_of r.job ≡ (step (job_of m) c).job
  pub frame : r.frame ≡ (step (job_of m) c).frame

pub record CEdge : Type 0 where
  -- what the exported functions promise can be given, whatever the struct
  pub total : (m : CJob) (c : Call) → (r : CReturn) × CStep m c r
  -- from any struct
  pub given : (m : CJob) (c : Call) (r : CReturn) → CStep m c r → Given m c r
  pub left : (m : CJob) (calls : List Call) (after : CJob) → CRun m calls after → job_of after ≡ run_from (job_of m) calls
  -- from an empty one the struct is that of the job to the number, and so is all that a call returns and leaves
  pub job : (a : Arrays) (calls : List Call) (m : CJob) → CRun (emptied a) calls m → m ≡ mirror_job (run a calls)
  pub returned : (a : Arrays) (calls : List Call) (m : CJob) (c : Call) (r : CReturn) → CRun (emptied a) calls m → CStep m c r →
      r ≡ return_of c (step (run a calls) c)
