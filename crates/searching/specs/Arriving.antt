-- What a search has come to: what its end asks, and what is given.
use Rattle.std.specs.Prelude.{◌≡◌, true, List, ℕ, ◌≤◌, ◌<◌, get_or, Ok}
use Rattle.decoding.specs.Remaining.{all_remaining}
use Rattle.ends.specs.Ends.{Startable}
use Rattle.frame.specs.DeclaredCells.{declared_by, declarable}
use Rattle.frame.specs.Frame.{held_sequences}
use Rattle.frame.specs.Shape.{is_shape}
use Rattle.frame.specs.declared.Shape.{Shape}
use Rattle.job.specs.Answers.{answered_outcome}
use Rattle.job.specs.Calls.{Outcome, refusing, arrives_tests, arrives}
use Rattle.job.specs.Job.{Arrays, no_columns, shaped_job, unfinished_head, step_sound}
use Rattle.job.specs.declared.Answered.{Answered}
use Rattle.job.specs.declared.Progress.TheVariants.{Unfinished}
use Rattle.refusal.specs.Order.{first_of}
use Rattle.slices.specs.Synthesis.{Synthesis, synthesis, begun, advanced}

-- a search that has ended can be located by what it holds
pub record Endable (s : Shape) (declared sums counts lengths register : List ℕ) : Type 0 where
  pub shape : is_shape s ≡ true
  pub declarable : declarable s (declared_by declared) ≡ true
  pub small : (k : ℕ) → get_or sums k 0 < 257
  pub short : get_or counts 4 0 ≤ 64
  pub first : get_or register 0 0 ≡ 1
  pub residues : (i : ℕ) → i < 144 → get_or register i 0 < 257
  pub shorter : Startable (get_or counts 0 0) lengths s.rows

-- that it goes on
abbrev pub goes_on : Shape → Answered
goes_on s = record { reply = Ok Unfinished; columns = no_columns; tried = 0; head = unfinished_head s }

abbrev pub all_arrays : (sums taps declared : List ℕ) → Synthesis → Arrays
all_arrays sums taps declared x = record { sums = sums; taps = taps; declared = declared; synthesis = x }

-- what is given beside the arrays a, to which a locate has come; f is the frame that the call was lent
abbrev pub arriving : Shape → Arrays → (f : List ℕ) → Outcome
arriving s a f = first_of (refusing (shaped_job s a) f) (arrives_tests s a) (arrives s a f)

-- the answer is r, and `left` are the taps that are left, whatever is in the arrays that are not read
abbrev pub ArriveDoes :
    Shape → (declared sums counts lengths places sizes register taps : List ℕ) → Answered → (left : List ℕ) → Type 0
ArriveDoes s declared sums counts lengths places sizes register taps r left =
    (symbols discs quotients saved f : List ℕ) →
    let x : Synthesis = synthesis counts lengths symbols places sizes discs quotients register saved in
    answered_outcome r (all_arrays sums left declared x) f ≡ arriving s (all_arrays sums taps declared x) f

-- a start from the sums leaves y where x stood
abbrev pub StartDoes : Shape → (declared sums taps : List ℕ) → Synthesis → Answered → (left : List ℕ) → Synthesis → Type 0
StartDoes s declared sums taps x r left y =
    (f : List ℕ) →
    answered_outcome r (all_arrays sums left declared y) f
    ≡ arriving s (all_arrays sums taps declared (begun (all_remaining s (declared_by declared) (held_sequences s sums)) x)) f

-- and so does a step
abbrev pub StepDoes : Shape → (declared sums taps : List ℕ) → Synthesis → Answered → (left : List ℕ) → Synthesis → Type 0
StepDoes s declared sums taps x r left y =
    (f : List ℕ) → answered_outcome r (all_arrays sums left declared y) f ≡ arriving s (all_arrays sums taps declared (advanced s.rows x)) f

-- a shape, and arrays with which a step can be made
pub record Turnable (s : Shape) (declared sums taps : List ℕ) (x : Synthesis) : Type 0 where
  pub shape : is_shape s ≡ true
  pub sound : step_sound s (all_arrays sums taps declared x) ≡ true
