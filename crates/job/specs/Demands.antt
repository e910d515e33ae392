-- Demands 2 and 3 about every list of calls on one job from an empty one: what each call does that is not refused, which locates and repairs are refused, and
-- what is mended. Proved in proofs/Demands.antt.
use Rattle.std.specs.Prelude.{◌≡◌, ◌⊎◌, ◌↔◌, true, false, List, [], ◌∷◌, ◌++◌, ℕ, ◌+◌, ◌*◌, ◌≤◌, ◌<◌, length}
use Rattle.std.proofs.Math.Option.{Option, none, some}
use Rattle.columns.specs.Columns.{members}
use Rattle.decoding.specs.Remaining.{read_sequences}
use Rattle.frame.specs.DeclaredCells.{Declared, declared_by, erasures, checks_left, as_read, WellFormedRead, distance_read, differing_read}
use Rattle.frame.specs.Encode.{OnlyLegal, OnlyUniform}
use Rattle.frame.specs.Frame.{Coded, Legal}
use Rattle.frame.specs.Shape.{checks_of}
use Rattle.frame.specs.declared.Shape.{Shape}
use Rattle.register.specs.Register.{Shortest, Alone}
use Rattle.job.specs.Calls.{Call, shape, encode, locate, repair, done, columns, refused, Outcome, step}
use Rattle.slices.specs.Same.{SameSynthesis}
use Rattle.job.specs.Job.{Arrays, Job, empty_job, is_located_phase, is_unfinished_phase, sound, no_columns}
use Rattle.job.specs.Left.{Given, LeftShaped, LeftLocated, sum_of}
use Rattle.job.specs.Refusals.{LegalAt}
use Rattle.job.specs.Runs.{run, after_calls, last_shape, IsRefused, Taken, NoneShapes, Between, LocatedBy, GoesBack}
use Rattle.job.specs.declared.Phase.{Phase}
use Rattle.job.specs.declared.Phase.TheVariants.{Empty, Shaped, Unfinished, Located}

-- ---- what every job holds

-- the shape that a job holds
abbrev pub held_shape : Phase → Shape → Option Shape
held_shape Empty s = none
held_shape Shaped s = some s
held_shape Unfinished s = some s
held_shape (Located c a) s = some s

-- What every job reached by calls holds: it is sound, its shape is that of the last shape call not refused, and one that is not located has no marks.
pub record Reached (a : Arrays) (calls : List Call) : Type 0 where
  pub sound : sound (run a calls) ≡ true
  pub shape : held_shape (run a calls).head.phase (run a calls).head.shape ≡ last_shape calls
  pub unmarked : is_located_phase (run a calls).head.phase ≡ false → (run a calls).head.columns ≡ no_columns

-- The shape of a list of calls is the one given by a shape call that is not refused and after which every other shape call is refused; and there is none
-- where every shape call is refused.
pub record ShapeIsLast : Type 0 where
  pub given :
      (a : Arrays) (before after : List Call) (n : ℕ) (checks : List ℕ) (b : ℕ) → Taken (after_calls a before (shape n checks b)) →
      NoneShapes (run a (before ++ (shape n checks b ∷ []))) after →
      (s : Shape) × Given n checks b s × (last_shape (before ++ (shape n checks b ∷ after)) ≡ some s)
  pub none : (a : Arrays) (calls : List Call) → NoneShapes (empty_job a) calls → last_shape calls ≡ none

-- ---- shape and encode

-- A shape call that is not refused leaves the job shaped, with the rows, columns, checks and exponent that are given.
abbrev pub ShapeGives : Type 0
ShapeGives =
    (a : Arrays) (calls : List Call) (n : ℕ) (checks : List ℕ) (b : ℕ) → Taken (after_calls a calls (shape n checks b)) →
    (s : Shape) × Given n checks b s × ((after_calls a calls (shape n checks b)).answer ≡ done) ×
    LeftShaped s (run a calls).arrays (after_calls a calls (shape n checks b)).job

-- Demand 2 of the encoder. An encode of the frame f that is not refused leaves the only legal frame that has the data of f, and the job as it was.
pub record Encoded (s : Shape) (f : List ℕ) (before : Job) (after : Outcome) : Type 0 where
  pub answer : after.answer ≡ done
  pub frame : OnlyLegal s f after.frame
  pub job : after.job ≡ before

abbrev pub EncodeFills : Type 0
EncodeFills =
    (a : Arrays) (calls : List Call) (f : List ℕ) → Taken (after_calls a calls (encode f)) →
    (s : Shape) × (last_shape calls ≡ some s) × Encoded s f (run a calls) (after_calls a calls (encode f))

-- Where an encode is refused by 34, one codeword has the data of f, and it is uniform.
abbrev pub EncodeUniform : Type 0
EncodeUniform =
    (a : Arrays) (calls : List Call) (f : List ℕ) → (after_calls a calls (encode f)).answer ≡ refused 34 →
    (s : Shape) × (e : List ℕ) × (last_shape calls ≡ some s) × OnlyUniform s f e

-- ---- locate

-- What c is of a locate that answers it, with the cells that the words declare: the length of the only shortest register; a frame of the kind asked for lies
-- at distance c, and the marked columns are those that this distance counts, c in number. The frame is only read; the job is located, and holds the frame's
-- sums, the register, the declared cells and the marks.
pub record FoundAs (Is : List ℕ → Type 0) (s : Shape) (words f : List ℕ) (c : ℕ) (after : Outcome) : Type 0 where
  pub taps : List ℕ
  pub shortest : Shortest 257 c (read_sequences s (declared_by words) f) taps
  pub alone : Alone 257 c (read_sequences s (declared_by words) f) taps
  pub there :
      (g : List ℕ) × Is g × (distance_read s (declared_by words) g f ≡ c) × (after.marks ≡ differing_read s (declared_by words) g f)
  pub number : length (members after.marks) ≡ c
  pub frame : after.frame ≡ f
  pub job : LeftLocated s words f c taps after.marks after.job

-- a legal frame
abbrev pub Found : (s : Shape) (words f : List ℕ) (c : ℕ) (after : Outcome) → Type 0
Found s words f c after = FoundAs (Legal s) s words f c after

abbrev pub LocateFinds : Type 0
LocateFinds =
    (a : Arrays) (calls : List Call) (words f : List ℕ) → Taken (after_calls a calls (locate words f)) →
    (s : Shape) × (c : ℕ) × (last_shape calls ≡ some s) × ((after_calls a calls (locate words f)).answer ≡ columns c) ×
    Found s words f c (after_calls a calls (locate words f))

-- Demand 3, second part. Locating a well-formed frame whose shortest register, of length c, is alone, with no row having fewer checks left than c, is
-- refused exactly when no legal frame lies at distance c.
abbrev pub LocateExact : Type 0
LocateExact =
    (a : Arrays) (calls : List Call) (s : Shape) (words f : List ℕ) (c : ℕ) (σ : List ℕ) → last_shape calls ≡ some s →
    WellFormedRead s (declared_by words) f → Shortest 257 c (read_sequences s (declared_by words) f) σ →
    Alone 257 c (read_sequences s (declared_by words) f) σ →
    ((h : ℕ) → h < s.rows → c ≤ checks_left s (declared_by words) h) →
    IsRefused (after_calls a calls (locate words f)) ↔ (LegalAt s (declared_by words) f c → ⊥)

-- ---- repair

-- Demand 3, first part, D being the declared cells. A repair of the frame f that answers c leaves a legal frame; c is its distance from f, the marked columns
-- are those that this distance counts, and every other codeword, so every other legal frame, lies farther from f. The job is shaped.
pub record Mended (s : Shape) (D : Declared) (f : List ℕ) (c : ℕ) (before : Job) (after : Outcome) : Type 0 where
  pub legal : Legal s after.frame
  pub count : distance_read s D after.frame f ≡ c
  pub marks : after.marks ≡ differing_read s D after.frame f
  pub nearest : (g : List ℕ) → Coded s g → (g ≡ after.frame → ⊥) → c < distance_read s D g f
  pub job : LeftShaped s before.arrays after.job

-- The declared cells are those of the locate, at once or in slices, that the repair goes back to.
abbrev pub RepairMends : Type 0
RepairMends =
    (a : Arrays) (calls : List Call) (f : List ℕ) → Taken (after_calls a calls (repair f)) →
    (s : Shape) × (words : List ℕ) × (c : ℕ) × (last_shape calls ≡ some s) × GoesBack a calls words ×
    ((after_calls a calls (repair f)).answer ≡ columns c) ×
    Mended s (declared_by words) f c (run a calls) (after_calls a calls (repair f))

-- some check sum of f, as read, differs from that of g
abbrev pub CheckSumsDiffer : Shape → Declared → (f g : List ℕ) → Type 0
CheckSumsDiffer s D f g =
    (h : ℕ) × (j : ℕ) × (h < s.rows) × (1 ≤ j) × (j ≤ checks_of s h) ×
    (sum_of s (as_read s D f) h j ≡ sum_of s (as_read s D g) h j → ⊥)

-- A repair of f is refused by 23 exactly where some check sum of f differs from that of g; by 26 exactly where none does and no legal frame lies at distance c
-- from f; and by nothing else.
pub record RepairRefused (s : Shape) (D : Declared) (f g : List ℕ) (c : ℕ) (o : Outcome) : Type 0 where
  pub at_all : IsRefused o ↔ (CheckSumsDiffer s D f g ⊎ (LegalAt s D f c → ⊥))
  pub by_23 : (o.answer ≡ refused 23) ↔ CheckSumsDiffer s D f g
  pub by_26 : (o.answer ≡ refused 26) ↔ ((CheckSumsDiffer s D f g → ⊥) × (LegalAt s D f c → ⊥))

-- It is so after calls that located g, at once or in slices, by a register of length c, with nothing but encodes and calls refused early since then, of an f
-- that is well-formed with the same declared cells.
abbrev pub RepairExact : Type 0
RepairExact =
    (a : Arrays) (before locating between : List Call) (s : Shape) (words f g : List ℕ) (c : ℕ) (σ : List ℕ) → last_shape before ≡ some s →
    LocatedBy a before words g locating → Between (run a (before ++ locating)) between → WellFormedRead s (declared_by words) f →
    Shortest 257 c (read_sequences s (declared_by words) g) σ →
    RepairRefused s (declared_by words) f g c (after_calls a (before ++ (locating ++ between)) (repair f))

-- A repair of the very frame that was located is refused exactly where a locate of it, in the place of the calls that located it, is; and then by 26.
abbrev pub RepairOfLocated : Type 0
RepairOfLocated =
    (a : Arrays) (before locating between : List Call) (words f : List ℕ) → LocatedBy a before words f locating →
    Between (run a (before ++ locating)) between →
    (IsRefused (after_calls a (before ++ (locating ++ between)) (repair f)) ↔ IsRefused (after_calls a before (locate words f))) ×
    ((k : ℕ) → (after_calls a (before ++ (locating ++ between)) (repair f)).answer ≡ refused k → k ≡ 26)

-- So after a locate of it, it is not refused.
abbrev pub RepairAfterLocate : Type 0
RepairAfterLocate =
    (a : Arrays) (before between : List Call) (words f : List ℕ) → Taken (after_calls a before (locate words f)) →
    Between (run a (before ++ (locate words f ∷ []))) between → Taken (after_calls a (before ++ (locate words f ∷ between)) (repair f))

-- Demand 3, third part. A legal frame g was sent, and f is what damage made of it: well-formed with the declared cells, and in every row twice the columns
-- that are altered in undeclared cells, and the declared cells, are within the checks. Then locating f is not refused, nor is a later repair of f with
-- nothing between them but encodes and calls refused early; the repair leaves g, whatever the declared cells hold.
pub record Recovered (a : Arrays) (before between : List Call) (words f g : List ℕ) : Type 0 where
  pub located : Taken (after_calls a before (locate words f))
  pub mended : Taken (after_calls a (before ++ (locate words f ∷ between)) (repair f))
  pub frame : (after_calls a (before ++ (locate words f ∷ between)) (repair f)).frame ≡ g

abbrev pub DamageMended : Type 0
DamageMended =
    (a : Arrays) (before between : List Call) (s : Shape) (words f g : List ℕ) → last_shape before ≡ some s → Legal s g →
    WellFormedRead s (declared_by words) f →
    ((h : ℕ) → h < s.rows → 2 * distance_read s (declared_by words) g f + erasures (declared_by words) h ≤ checks_of s h) →
    Between (run a (before ++ (locate words f ∷ []))) between → Recovered a before between words f g

-- ---- arrays

-- the same sums, taps and declared cells
pub record SameFound (a b : Arrays) : Type 0 where
  pub sums : a.sums ≡ b.sums
  pub taps : a.taps ≡ b.taps
  pub declared : a.declared ≡ b.declared

-- the same sums and declared cells, and the same of a search
pub record SameStarted (a b : Arrays) : Type 0 where
  pub sums : a.sums ≡ b.sums
  pub declared : a.declared ≡ b.declared
  pub synthesis : SameSynthesis a.synthesis b.synthesis

-- What an array holds that the phase does not speak for plays no part: two jobs are alike that have one head and, where it is located or unfinished, hold the
-- same.
pub record Alike (i j : Job) : Type 0 where
  pub head : i.head ≡ j.head
  pub located : is_located_phase j.head.phase ≡ true → SameFound i.arrays j.arrays
  pub unfinished : is_unfinished_phase j.head.phase ≡ true → SameStarted i.arrays j.arrays

-- A call answers two jobs that are alike the same, leaves the same frame, and leaves them alike.
pub record SameOutcome (o p : Outcome) : Type 0 where
  pub answer : o.answer ≡ p.answer
  pub marks : o.marks ≡ p.marks
  pub tried : o.tried ≡ p.tried
  pub frame : o.frame ≡ p.frame
  pub job : Alike o.job p.job

abbrev pub ArraysPlayNoPart : Type 0
ArraysPlayNoPart = (i j : Job) (c : Call) → Alike i j → SameOutcome (step i c) (step j c)

-- ---- the demands

pub record Demand2 : Type 0 where
  pub encode-fills : EncodeFills
  pub encode-uniform : EncodeUniform

pub record Demand3 : Type 0 where
  pub reached : (a : Arrays) (calls : List Call) → Reached a calls
  pub shape-is-last : ShapeIsLast
  pub shape-gives : ShapeGives
  pub locate-finds : LocateFinds
  pub locate-exact : LocateExact
  pub repair-mends : RepairMends
  pub repair-exact : RepairExact
  pub repair_of_located : RepairOfLocated
  pub repair-after-locate : RepairAfterLocate
  pub damage-mended : DamageMended
  pub arrays : ArraysPlayNoPart
