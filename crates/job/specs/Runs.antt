-- Lists of calls on one job, the first on an empty one: the job that they leave, and the shape that they give it.
use Rattle.std.specs.Prelude.{◌≡◌, ◌⊎◌, false, List, [], ◌∷◌, ◌++◌, ℕ, suc}
use Rattle.std.proofs.Math.Option.{Option, none, some}
use Rattle.frame.specs.Shape.{shape_of, shape_tests}
use Rattle.frame.specs.declared.Shape.{Shape}
use Rattle.refusal.specs.Order.{first_of}
use Rattle.job.specs.Calls.{Call, shape, encode, locate, repair, start, next, peek, columns, refused, Outcome, step, late}
use Rattle.job.specs.Job.{Arrays, Job, empty_job}

-- the job after a list of calls, each on the job that the call before it returned or left
unfoldable pub run_from : Job → List Call → Job
run_from j [] = j
run_from j (c ∷ cs) = run_from (step j c).job cs

-- the job after a list of calls, the first on an empty job beside the arrays a, which may hold anything
abbrev pub run : Arrays → List Call → Job
run a calls = run_from (empty_job a) calls

-- what one more call does
abbrev pub after_calls : Arrays → List Call → Call → Outcome
after_calls a calls c = step (run a calls) c

abbrev pub IsRefused : Outcome → Type 0
IsRefused o = (k : ℕ) × (o.answer ≡ refused k)

-- the call is not refused
abbrev pub Taken : Outcome → Type 0
Taken o = IsRefused o → ⊥

-- ---- the shape

-- the shape that a job has after the call: that of a shape call that is not refused, whatever the job, and after every other call the one given
abbrev pub shape_after : Option Shape → Call → Option Shape
shape_after s (shape n checks b) = first_of (λ k. s) (shape_tests n checks b) (some (shape_of n checks b))
shape_after s (encode f) = s
shape_after s (locate words f) = s
shape_after s (repair f) = s
shape_after s (start words f) = s
shape_after s next = s
shape_after s peek = s

-- the shape of the last shape call that is not refused, or the one given where there is none
unfoldable pub last_shape_from : Option Shape → List Call → Option Shape
last_shape_from s [] = s
last_shape_from s (c ∷ cs) = last_shape_from (shape_after s c) cs

abbrev pub last_shape : List Call → Option Shape
last_shape calls = last_shape_from none calls

-- ---- calls that change little

abbrev pub IsShapeCall : Call → Type 0
IsShapeCall c = (n : ℕ) × (checks : List ℕ) × (b : ℕ) × (c ≡ shape n checks b)

-- calls from the job j on, each shape call among them refused
abbrev pub NoneShapes : Job → List Call → Type 0
NoneShapes j [] = Unit {0}
NoneShapes j (c ∷ cs) = (IsShapeCall c → IsRefused (step j c)) × NoneShapes (step j c).job cs

abbrev pub IsEncode : Call → Type 0
IsEncode c = (f : List ℕ) × (c ≡ encode f)

abbrev pub RefusedEarly : Outcome → Type 0
RefusedEarly o = (k : ℕ) × (o.answer ≡ refused k) × (late k ≡ false)

-- calls from the job j on that are encodes, or refused by other numbers than 24, 25, 26
abbrev pub Between : Job → List Call → Type 0
Between j [] = Unit {0}
Between j (c ∷ cs) = (IsEncode c ⊎ RefusedEarly (step j c)) × Between (step j c).job cs

-- ---- locating, at once or in slices

-- calls from the job j on that are steps, peeks, encodes, or refused by other numbers than 24, 25, 26
abbrev pub Slicing : Job → List Call → Type 0
Slicing j [] = Unit {0}
Slicing j (c ∷ cs) = ((c ≡ next) ⊎ ((c ≡ peek) ⊎ (IsEncode c ⊎ RefusedEarly (step j c)))) × Slicing (step j c).job cs

-- how many of the calls are steps
unfoldable pub steps_in : List Call → ℕ
steps_in [] = 0
steps_in (shape n checks b ∷ cs) = steps_in cs
steps_in (encode f ∷ cs) = steps_in cs
steps_in (locate words f ∷ cs) = steps_in cs
steps_in (repair f ∷ cs) = steps_in cs
steps_in (start words f ∷ cs) = steps_in cs
steps_in (next ∷ cs) = suc (steps_in cs)
steps_in (peek ∷ cs) = steps_in cs

-- After the calls `before` the calls of the last list locate the frame, with the cells that the words declare: a locate that is not refused; a start that ends
-- at once; or a start, calls of which the job is not told to do anything else, and the step that ends it.
pub data LocatedBy : Arrays → List Call → (words frame : List ℕ) → List Call → Type 0 where
  at_once : (a : Arrays) (before : List Call) (words frame : List ℕ) → Taken (after_calls a before (locate words frame)) →
      LocatedBy a before words frame (locate words frame ∷ [])
  at-start : (a : Arrays) (before : List Call) (words frame : List ℕ) (c : ℕ) → (after_calls a before (start words frame)).answer ≡ columns c →
      LocatedBy a before words frame (start words frame ∷ [])
  in_slices : (a : Arrays) (before : List Call) (words frame : List ℕ) (cs : List Call) (c : ℕ) → Taken (after_calls a before (start words frame)) →
      Slicing (after_calls a before (start words frame)).job cs → (after_calls a (before ++ (start words frame ∷ cs)) next).answer ≡ columns c →
      LocatedBy a before words frame (start words frame ∷ (cs ++ (next ∷ [])))

-- What a repair after the calls goes back to: the calls that located a frame, with nothing after them but encodes and calls refused by other numbers than
-- 24, 25, 26. The words are those of its declared cells.
pub record GoesBack (a : Arrays) (calls : List Call) (words : List ℕ) : Type 0 where
  pub before : List Call
  pub frame : List ℕ
  pub locating : List Call
  pub between : List Call
  pub split : calls ≡ before ++ (locating ++ between)
  pub located : LocatedBy a before words frame locating
  pub kept : Between (run a (before ++ locating)) between
