-- What is owed of locating in slices, over every list of calls on one job. Proved in proofs/Slices.antt.
use Rattle.std.specs.Prelude.{◌≡◌, false, List, ◌∷◌, ◌++◌, ℕ, suc, ◌+◌, ◌-◌, ◌*◌, ◌/◌, ◌≤◌, ◌<◌}
use Rattle.std.proofs.Math.Option.{some}
use Rattle.decoding.specs.Remaining.{read_sequences}
use Rattle.frame.specs.DeclaredCells.{Declared, declared_by, erasures, WellFormedRead, distance_read}
use Rattle.frame.specs.Frame.{Coded, Varied, Legal}
use Rattle.frame.specs.Shape.{checks_of}
use Rattle.frame.specs.declared.Shape.{Shape}
use Rattle.register.specs.Register.{Shortest}
use Rattle.register.specs.Sequences.{longest, shortened}
use Rattle.job.specs.Calls.{Call, locate, repair, start, next, peek, columns, unfinished, shortest, refused, Outcome, by_sums, late}
use Rattle.job.specs.Demands.{FoundAs, Alike, SameOutcome}
use Rattle.job.specs.Job.{Arrays}
use Rattle.job.specs.Runs.{run, after_calls, last_shape, IsRefused, Taken, Between, Slicing, steps_in}

-- the number of steps: the longest sequence times the rows
abbrev pub slices_of : Shape → (words f : List ℕ) → ℕ
slices_of s words f = longest (read_sequences s (declared_by words) f) * s.rows

-- the same but for the frame: none is lent to a step
pub record SameAnswer (o p : Outcome) : Type 0 where
  pub answer : o.answer ≡ p.answer
  pub marks : o.marks ≡ p.marks
  pub tried : o.tried ≡ p.tried
  pub job : Alike o.job p.job

-- The frame f was lent to a start that is not refused, after `before`; then came `between`, steps, peeks, encodes and calls refused early. Each step but the
-- last answers that the locate is unfinished; the last one answers and leaves what a locate of f by its check sums would have, on the job before the start; and
-- no step comes after. A peek answers the shortest length for the sequences without their last N − n symbols, n being the number of finished rounds, N the
-- longest length.
pub record Sliced (a : Arrays) (before between : List Call) (s : Shape) (words f : List ℕ) : Type 0 where
  pub on : suc (steps_in between) < slices_of s words f → (after_calls a (before ++ (start words f ∷ between)) next).answer ≡ unfinished
  pub last :
      suc (steps_in between) ≡ slices_of s words f →
      SameAnswer (after_calls a (before ++ (start words f ∷ between)) next) (by_sums (run a before) words f)
  pub over : slices_of s words f ≤ steps_in between → (after_calls a (before ++ (start words f ∷ between)) next).answer ≡ refused 33
  pub peeked :
      steps_in between < slices_of s words f →
      (l : ℕ) × (σ : List ℕ) × ((after_calls a (before ++ (start words f ∷ between)) peek).answer ≡ shortest l) ×
      Shortest 257 l
      (shortened (longest (read_sequences s (declared_by words) f) - steps_in between / s.rows) (read_sequences s (declared_by words) f)) σ

abbrev pub InSlices : Type 0
InSlices =
    (a : Arrays) (before between : List Call) (s : Shape) (words f : List ℕ) → last_shape before ≡ some s →
    Taken (after_calls a before (start words f)) → Slicing (after_calls a before (start words f)).job between →
    Sliced a before between s words f

-- Where there are no steps to make the start does what a locate by the check sums does; else, if it is not refused, it answers that the locate is unfinished.
pub record Started (a : Arrays) (before : List Call) (s : Shape) (words f : List ℕ) : Type 0 where
  pub at_once : slices_of s words f ≡ 0 → SameOutcome (after_calls a before (start words f)) (by_sums (run a before) words f)
  pub on : 0 < slices_of s words f → Taken (after_calls a before (start words f)) → (after_calls a before (start words f)).answer ≡ unfinished

abbrev pub StartGoesOn : Type 0
StartGoesOn = (a : Arrays) (before : List Call) (s : Shape) (words f : List ℕ) → last_shape before ≡ some s → Started a before s words f

-- one codeword lies at distance c from f, and it is uniform
abbrev pub UniformAt : Shape → Declared → (f : List ℕ) (c : ℕ) → Type 0
UniformAt s D f c =
    (g : List ℕ) × Coded s g × (distance_read s D g f ≡ c) × (Varied g → ⊥) ×
    ((e : List ℕ) → Coded s e → distance_read s D e f ≡ c → e ≡ g)

-- What a locate by the check sums finds that is not refused is what locate finds, but that the frame at distance c is a codeword.
abbrev pub BySumsFinds : Type 0
BySumsFinds =
    (a : Arrays) (calls : List Call) (words f : List ℕ) → Taken (by_sums (run a calls) words f) →
    (s : Shape) × (c : ℕ) × (last_shape calls ≡ some s) × ((by_sums (run a calls) words f).answer ≡ columns c) ×
    FoundAs (Coded s) s words f c (by_sums (run a calls) words f)

-- It does what locate does, but where the only codeword at distance c is uniform: there locate is refused by 26.
pub record LikeLocate (a : Arrays) (before : List Call) (s : Shape) (words f : List ℕ) : Type 0 where
  pub where_taken : Taken (after_calls a before (locate words f)) → by_sums (run a before) words f ≡ after_calls a before (locate words f)
  pub where_refused : IsRefused (by_sums (run a before) words f) → by_sums (run a before) words f ≡ after_calls a before (locate words f)
  pub where_apart :
      Taken (by_sums (run a before) words f) → IsRefused (after_calls a before (locate words f)) →
      (c : ℕ) × ((by_sums (run a before) words f).answer ≡ columns c) × ((after_calls a before (locate words f)).answer ≡ refused 26) ×
      UniformAt s (declared_by words) f c

abbrev pub BySums : Type 0
BySums = (a : Arrays) (before : List Call) (s : Shape) (words f : List ℕ) → last_shape before ≡ some s → LikeLocate a before s words f

-- a start is refused for the reasons of 21, 7, 31 and 4 alone
abbrev pub StartEarly : Type 0
StartEarly = (a : Arrays) (before : List Call) (words f : List ℕ) (k : ℕ) → (after_calls a before (start words f)).answer ≡ refused k → late k ≡ false

-- Demand 3, third part, in slices. The frame sent comes back, if all steps are made and then a repair, with nothing between them but peeks, encodes and
-- calls refused early.
pub record Recovered (a : Arrays) (before between after : List Call) (words f g : List ℕ) : Type 0 where
  pub started : Taken (after_calls a before (start words f))
  pub located : Taken (after_calls a (before ++ (start words f ∷ between)) next)
  pub mended : Taken (after_calls a (before ++ (start words f ∷ (between ++ (next ∷ after)))) (repair f))
  pub frame : (after_calls a (before ++ (start words f ∷ (between ++ (next ∷ after)))) (repair f)).frame ≡ g

abbrev pub DamageMendedInSlices : Type 0
DamageMendedInSlices =
    (a : Arrays) (before between after : List Call) (s : Shape) (words f g : List ℕ) → last_shape before ≡ some s → Legal s g →
    WellFormedRead s (declared_by words) f →
    ((h : ℕ) → h < s.rows → 2 * distance_read s (declared_by words) g f + erasures (declared_by words) h ≤ checks_of s h) →
    Slicing (after_calls a before (start words f)).job between → suc (steps_in between) ≡ slices_of s words f →
    Between (after_calls a (before ++ (start words f ∷ between)) next).job after → Recovered a before between after words f g

pub record LocatesInSlices : Type 0 where
  pub slices : InSlices
  pub start-goes-on : StartGoesOn
  pub by-sums : BySums
  pub by-sums-finds : BySumsFinds
  pub start-early : StartEarly
  pub damage-mended : DamageMendedInSlices
