-- Demand 3 where no cell is declared, in the words of a frame as it stands: its own check sums, all its cells, all checks of its rows. With 32 words that are 0
-- each part of demand 3 says this. Proved in proofs/NothingDeclared.antt.
use Rattle.std.specs.Prelude.{◌≡◌, ◌↔◌, List, [], ◌∷◌, ◌++◌, ℕ, ◌*◌, ◌≤◌, ◌<◌, length, replicate}
use Rattle.std.proofs.Math.Option.{some}
use Rattle.columns.specs.Columns.{members}
use Rattle.frame.specs.Frame.{WellFormed, Coded, Legal, sequences, distance, differing}
use Rattle.frame.specs.Shape.{checks_of}
use Rattle.frame.specs.declared.Shape.{Shape}
use Rattle.register.specs.Register.{Shortest, Alone}
use Rattle.job.specs.Calls.{Call, locate, repair, columns, refused, Outcome}
use Rattle.job.specs.Demands.{Recovered}
use Rattle.job.specs.Job.{Arrays}
use Rattle.job.specs.Left.{HoldsSums, sum_of}
use Rattle.job.specs.Runs.{run, after_calls, last_shape, IsRefused, Taken, Between, LocatedBy, GoesBack}

-- the words that declare nothing
abbrev pub no_words : List ℕ
no_words = replicate 32 0

-- what a locate finds, and that it holds the frame's own sums
pub record FoundWhole (s : Shape) (f : List ℕ) (c : ℕ) (after : Outcome) : Type 0 where
  pub taps : List ℕ
  pub shortest : Shortest 257 c (sequences s f) taps
  pub alone : Alone 257 c (sequences s f) taps
  pub legal-at : (g : List ℕ) × Legal s g × (distance s g f ≡ c) × (after.marks ≡ differing s g f)
  pub number : length (members after.marks) ≡ c
  pub sums : HoldsSums s f after.job.arrays.sums

-- what a repair leaves
pub record MendedWhole (s : Shape) (f : List ℕ) (c : ℕ) (after : Outcome) : Type 0 where
  pub legal : Legal s after.frame
  pub count : distance s after.frame f ≡ c
  pub marks : after.marks ≡ differing s after.frame f
  pub nearest : (g : List ℕ) → Coded s g → (g ≡ after.frame → ⊥) → c < distance s g f

abbrev pub SumsDifferWhole : Shape → (f g : List ℕ) → Type 0
SumsDifferWhole s f g =
    (h : ℕ) × (j : ℕ) × (h < s.rows) × (1 ≤ j) × (j ≤ checks_of s h) × (sum_of s f h j ≡ sum_of s g h j → ⊥)

pub record NothingDeclared : Type 0 where
  pub locate-finds :
      (a : Arrays) (calls : List Call) (f : List ℕ) → Taken (after_calls a calls (locate no_words f)) →
      (s : Shape) × (c : ℕ) × (last_shape calls ≡ some s) × ((after_calls a calls (locate no_words f)).answer ≡ columns c) ×
      FoundWhole s f c (after_calls a calls (locate no_words f))
  pub locate-exact :
      (a : Arrays) (calls : List Call) (s : Shape) (f : List ℕ) (c : ℕ) (σ : List ℕ) → last_shape calls ≡ some s →
      WellFormed s f → Shortest 257 c (sequences s f) σ → Alone 257 c (sequences s f) σ →
      ((h : ℕ) → h < s.rows → c ≤ checks_of s h) →
      IsRefused (after_calls a calls (locate no_words f)) ↔ ((g : List ℕ) × Legal s g × (distance s g f ≡ c) → ⊥)
  pub repair-mends :
      (a : Arrays) (calls : List Call) (f : List ℕ) → GoesBack a calls no_words → Taken (after_calls a calls (repair f)) →
      (s : Shape) × (c : ℕ) × (last_shape calls ≡ some s) × ((after_calls a calls (repair f)).answer ≡ columns c) ×
      MendedWhole s f c (after_calls a calls (repair f))
  pub repair-exact :
      (a : Arrays) (before locating between : List Call) (s : Shape) (f g : List ℕ) (c : ℕ) (σ : List ℕ) → last_shape before ≡ some s →
      LocatedBy a before no_words g locating → Between (run a (before ++ locating)) between → WellFormed s f →
      Shortest 257 c (sequences s g) σ →
      (((after_calls a (before ++ (locating ++ between)) (repair f)).answer ≡ refused 23) ↔ SumsDifferWhole s f g) ×
      (((after_calls a (before ++ (locating ++ between)) (repair f)).answer ≡ refused 26) ↔
      ((SumsDifferWhole s f g → ⊥) × ((e : List ℕ) × Legal s e × (distance s e f ≡ c) → ⊥)))
  pub damage-mended :
      (a : Arrays) (before between : List Call) (s : Shape) (f g : List ℕ) → last_shape before ≡ some s → Legal s g →
      WellFormed s f → ((h : ℕ) → h < s.rows → 2 * distance s g f ≤ checks_of s h) →
      Between (run a (before ++ (locate no_words f ∷ []))) between → Recovered a before between no_words f g
