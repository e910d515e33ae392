-- What the exported functions do, by the definitions of the finder and of the calls on a job: what they return, and what they leave in the lent arrays and
-- buffers. (The contract of `tomkhadi_search`, which leaves nothing, needs none of these.) What is not lent is kept: shape, encode and peek keep all
-- arrays; repair, which only reads the sums and the declared cells, the taps; and all but start those of a locate in slices.
use Rattle.std.specs.Prelude.{◌≡◌, List, ℕ, length}
use Rattle.finder.specs.Finder.{answer, taps_left}
use Rattle.job.specs.Calls.{Outcome, step, shape, encode, locate, repair, start, next, peek}
use Rattle.job.specs.Job.{Arrays, Job, beside, with_found, with_read, with_started}
use Rattle.mirror.specs.Mirror.{head_of, register_of, refusal_of, shaped_of, peeked_of, answered_of}
use Rattle.mirror.specs.declared.CAnswered.{CAnswered}
use Rattle.mirror.specs.declared.CHead.{CHead}
use Rattle.mirror.specs.declared.CPeeked.{CPeeked}
use Rattle.mirror.specs.declared.CRegister.{CRegister}
use Rattle.mirror.specs.declared.CShaped.{CShaped}
use Rattle.slices.specs.Synthesis.{Synthesis}

-- find: the register, and the buffer of the taps
pub record CFinds (p : ℕ) (lengths symbols buffer left : List ℕ) (r : CRegister) : Type 0 where
  pub answers : r ≡ register_of (answer p lengths symbols (length buffer))
  pub leaves : left ≡ taps_left p lengths symbols buffer

-- In the others o is the outcome of the call on the job that head and arrays make.
-- shape: the refusal or 0 and the head; the arrays a are those of the outcome
pub record CShapes (a : Arrays) (o : Outcome) (r : CShaped) : Type 0 where
  pub answers : r ≡ shaped_of o
  pub arrays : o.job.arrays ≡ a

-- encode: the refusal or 0, and the frame; the job j is that of the outcome
pub record CEncodes (j : Job) (o : Outcome) (r : ℕ) (left : List ℕ) : Type 0 where
  pub answers : r ≡ refusal_of o.answer
  pub job : o.job ≡ j
  pub leaves : left ≡ o.frame

-- locate, start and step: the answer and the head, and the arrays a as it leaves them
pub record CLocates (o : Outcome) (r : CAnswered) (a : Arrays) : Type 0 where
  pub answers : r ≡ answered_of o
  pub arrays : a ≡ o.job.arrays

-- repair: the answer and the head, and the frame; the arrays a are those of the outcome
pub record CRepairs (a : Arrays) (o : Outcome) (r : CAnswered) (left : List ℕ) : Type 0 where
  pub answers : r ≡ answered_of o
  pub arrays : o.job.arrays ≡ a
  pub leaves : left ≡ o.frame

-- peek: the length; the job j is that of the outcome
pub record CPeeks (j : Job) (o : Outcome) (r : CPeeked) : Type 0 where
  pub answers : r ≡ peeked_of o.answer
  pub job : o.job ≡ j

-- What each function promises of the head that it is given, of what it is lent and of what it returns and leaves, whatever the arrays are that it is not lent
abbrev pub HeadShapes : (head : CHead) (n : ℕ) (checks : List ℕ) (b : ℕ) (r : CShaped) → Type 0
HeadShapes m n checks b r = (a : Arrays) → CShapes a (step (beside (head_of m) a) (shape n checks b)) r

abbrev pub HeadEncodes : (head : CHead) (frame : List ℕ) (r : ℕ) (left : List ℕ) → Type 0
HeadEncodes m f r left = (a : Arrays) → CEncodes (beside (head_of m) a) (step (beside (head_of m) a) (encode f)) r left

abbrev pub HeadLocates : (head : CHead) (sums taps held declared frame : List ℕ) (r : CAnswered) (sumsLeft taps_left heldLeft : List ℕ) → Type 0
HeadLocates m sums taps held declared f r sumsLeft taps_left heldLeft =
    (a : Arrays) →
    CLocates (step (beside (head_of m) (with_found a sums taps held)) (locate declared f)) r (with_found a sumsLeft taps_left heldLeft)

abbrev pub HeadRepairs : (head : CHead) (sums held frame : List ℕ) (r : CAnswered) (left : List ℕ) → Type 0
HeadRepairs m sums held f r left =
    (a : Arrays) → CRepairs (with_read a sums held) (step (beside (head_of m) (with_read a sums held)) (repair f)) r left

-- all arrays of a job
abbrev pub arrays_of : (sums taps held : List ℕ) → Synthesis → Arrays
arrays_of sums taps held x = record { sums = sums; taps = taps; declared = held; synthesis = x }

abbrev pub HeadStarts : (head : CHead) (sums taps held : List ℕ) (x : Synthesis) (declared frame : List ℕ) (r : CAnswered)
    (sumsLeft taps_left heldLeft : List ℕ) (left : Synthesis) → Type 0
HeadStarts m sums taps held x declared f r sumsLeft taps_left heldLeft left =
    CLocates (step (beside (head_of m) (arrays_of sums taps held x)) (start declared f)) r (arrays_of sumsLeft taps_left heldLeft left)

-- the sums and the declared cells are only read
abbrev pub HeadSteps : (head : CHead) (sums taps held : List ℕ) (x : Synthesis) (r : CAnswered) (taps_left : List ℕ) (left : Synthesis) → Type 0
HeadSteps m sums taps held x r taps_left left =
    CLocates (step (beside (head_of m) (arrays_of sums taps held x)) next) r (arrays_of sums taps_left held left)

abbrev pub HeadPeeks : (head : CHead) (sums held : List ℕ) (x : Synthesis) (r : CPeeked) → Type 0
HeadPeeks m sums held x r =
    (a : Arrays) → CPeeks (beside (head_of m) (with_started a sums held x)) (step (beside (head_of m) (with_started a sums held x)) peek) r
