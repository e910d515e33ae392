-- Demand 1 for the calls on a job: the refusals of each call in their order, each with its reason in the words of the specification, and what a refusal leaves.
-- Proved in proofs/Refusals.antt.
use Rattle.std.specs.Prelude.{◌≡◌, ◌⊎◌, ◌↔◌, true, false, ◌&&◌, List, [], ◌∷◌, ◌++◌, ℕ, ◌<◌, get_or}
use Rattle.decoding.specs.Locating.{names_all, named_columns}
use Rattle.decoding.specs.Remaining.{read_sequences, meeting_completable, mended}
use Rattle.frame.specs.DeclaredCells.{Declared, declared_by, checks_left, as_read, BadCells, read_reasons, reread_reasons, distance_read}
use Rattle.frame.specs.Demands.{shape_reasons, encode_reasons}
use Rattle.frame.specs.Frame.{Coded, Varied, Legal, held_sums, held_sequences}
use Rattle.frame.specs.declared.Shape.{Shape}
use Rattle.refusal.specs.Order.{Reason, First}
use Rattle.register.specs.Register.{Generator, Shortest, Alone}
use Rattle.slices.specs.Synthesis.{Synthesis, size, ended}
use Rattle.job.specs.Calls.{Call, shape, encode, locate, repair, start, next, peek, refused, Outcome, step, by_sums, late}
use Rattle.job.specs.Calls.{held_taps, held_mark, started, stepped}
use Rattle.job.specs.Job.{Arrays, Job, no_columns, is_located_phase, is_unfinished_phase, length_of, declared_in, step_sound, sound}
use Rattle.job.specs.Left.{LeftShaped}
use Rattle.job.specs.declared.Phase.TheVariants.{Empty}

-- a codeword lies at distance c from f
abbrev pub CodedAt : Shape → Declared → (f : List ℕ) (c : ℕ) → Type 0
CodedAt s D f c = (g : List ℕ) × Coded s g × (distance_read s D g f ≡ c)

-- a legal frame does
abbrev pub LegalAt : Shape → Declared → (f : List ℕ) (c : ℕ) → Type 0
LegalAt s D f c = (g : List ℕ) × Legal s g × (distance_read s D g f ≡ c)

-- the job is empty, or a value that no call leaves, which counts as empty
abbrev pub empty_reason : Job → Reason
empty_reason j = record { number = 21; holds = (j.head.phase ≡ Empty) ⊎ (sound j ≡ false) }

-- some row has fewer checks left than c
abbrev pub ShortRow : Shape → Declared → (c : ℕ) → Type 0
ShortRow s D c = (h : ℕ) × (h < s.rows) × (checks_left s D h < c)

-- the job is not located, or holds declared cells with which no locate leaves it, and counts as shaped
abbrev pub not_located_reason : Job → Reason
not_located_reason j =
    let s : Shape = j.head.shape in
    let D : Declared = declared_in j in
    record {
      number = 22;
      holds = (is_located_phase j.head.phase ≡ false) ⊎ (BadCells s D ⊎ ShortRow s D (length_of j.head.phase));
    }

-- Of a well-formed frame: another register of the shortest length exists;
abbrev pub not_alone_reason : Shape → Declared → (f : List ℕ) → Reason
not_alone_reason s D f =
    let ss : List (List ℕ) = read_sequences s D f in
    record {
      number = 24;
      holds =
          (c : ℕ) × (σ : List ℕ) × (τ : List ℕ) × Shortest 257 c ss σ × Generator 257 c ss τ × (τ ≡ σ → ⊥);
    }

-- it is alone, and some row has fewer checks left than its length c;
abbrev pub short_row_reason : Shape → Declared → (f : List ℕ) → Reason
short_row_reason s D f =
    let ss : List (List ℕ) = read_sequences s D f in
    record {
      number = 25;
      holds = (c : ℕ) × (σ : List ℕ) × Shortest 257 c ss σ × Alone 257 c ss σ × ShortRow s D c;
    }

-- no legal frame lies at distance c.
abbrev pub no_frame_reason : Shape → Declared → (f : List ℕ) → Reason
no_frame_reason s D f =
    record {
      number = 26;
      holds = (c : ℕ) × (σ : List ℕ) × Shortest 257 c (read_sequences s D f) σ × (LegalAt s D f c → ⊥);
    }

abbrev pub register_reasons : Shape → Declared → (f : List ℕ) → List Reason
register_reasons s D f = not_alone_reason s D f ∷ short_row_reason s D f ∷ no_frame_reason s D f ∷ []

-- Of a locate by the check sums alone the last reason is that no codeword lies there.
abbrev pub no_codeword_reason : Shape → Declared → (f : List ℕ) → Reason
no_codeword_reason s D f =
    record {
      number = 26;
      holds = (c : ℕ) × (σ : List ℕ) × Shortest 257 c (read_sequences s D f) σ × (CodedAt s D f c → ⊥);
    }

abbrev pub by_sums_reasons : Shape → Declared → (f : List ℕ) → List Reason
by_sums_reasons s D f = not_alone_reason s D f ∷ short_row_reason s D f ∷ no_codeword_reason s D f ∷ []

-- some of the 512 held sums are not those located
abbrev pub SumsDiffer : (a b : List ℕ) → Type 0
SumsDiffer a b = (k : ℕ) × (k < 512) × (get_or a k 0 ≡ get_or b k 0 → ⊥)

abbrev pub sums_reason : Job → (f : List ℕ) → Reason
sums_reason j f =
    let s : Shape = j.head.shape in
    record { number = 23; holds = SumsDiffer (held_sums s (as_read s (declared_in j) f)) j.arrays.sums }

-- no two symbols differ of the frame that a repair would leave
abbrev pub uniform_reason : Job → (f : List ℕ) → Reason
uniform_reason j f =
    record { number = 26; holds = Varied (mended j.head.shape (declared_in j) j.head.columns f) → ⊥ }

-- the job is not unfinished, or holds arrays with which no call leaves it, and counts as shaped
abbrev pub not_unfinished_reason : Job → Reason
not_unfinished_reason j =
    record {
      number = 33;
      holds = (is_unfinished_phase j.head.phase ≡ false) ⊎ (step_sound j.head.shape j.arrays ≡ false);
    }

-- The refusals of a locate in slices that has come to the arrays a, by what these hold: all rounds are finished, and the register is not marked alone; or it is
-- too long for some row; or it names too few columns, or some at which a row cannot be completed. Of a job that calls leave they are those of a locate by
-- the check sums alone (specs/Slices.antt).
abbrev pub arrives_reasons : Shape → Arrays → List Reason
arrives_reasons s a =
    let x : Synthesis = a.synthesis in
    let D : Declared = declared_by a.declared in
    record { number = 24; holds = (ended x ≡ true) × (held_mark s x ≡ false) } ∷
    record { number = 25; holds = (ended x ≡ true) × ShortRow s D (size x) } ∷
    record {
      number = 26;
      holds =
          (ended x ≡ true) ×
          ((names_all s (held_taps x) (size x) && meeting_completable s D (named_columns s (held_taps x)) (held_sequences s a.sums)) ≡ false);
    } ∷
    []

-- the reasons of a call's refusals in their order: those that leave the job as it was, and after them those that leave it shaped
pub record Reasons : Type 1 where
  pub keeping : List Reason
  pub shaping : List Reason

abbrev pub reasons : Job → Call → Reasons
reasons j (shape n checks b) = record { keeping = shape_reasons n checks b; shaping = [] }
reasons j (encode f) = record { keeping = empty_reason j ∷ encode_reasons j.head.shape f; shaping = [] }
reasons j (locate words f) =
    let s : Shape = j.head.shape in
    let D : Declared = declared_by words in
    record { keeping = empty_reason j ∷ read_reasons s D f; shaping = register_reasons s D f }
reasons j (repair f) =
    record {
      keeping =
          empty_reason j ∷ not_located_reason j ∷ (reread_reasons j.head.shape (declared_in j) f ++ (sums_reason j f ∷ []));
      shaping = uniform_reason j f ∷ [];
    }
reasons j (start words f) =
    let s : Shape = j.head.shape in
    record { keeping = empty_reason j ∷ read_reasons s (declared_by words) f; shaping = arrives_reasons s (started s j.arrays words f) }
reasons j next =
    record {
      keeping = empty_reason j ∷ not_unfinished_reason j ∷ [];
      shaping = arrives_reasons j.head.shape (stepped j.head.shape j.arrays);
    }
reasons j peek = record { keeping = empty_reason j ∷ not_unfinished_reason j ∷ []; shaping = [] }

-- the frame that is lent to a call, none to shape, to a step and to a peek
abbrev pub lent_to : Call → List ℕ
lent_to (shape n checks b) = []
lent_to (encode f) = f
lent_to (locate words f) = f
lent_to (repair f) = f
lent_to (start words f) = f
lent_to next = []
lent_to peek = []

-- the arrays that a refusal leaves which leaves the job shaped: a start and a step have written theirs
abbrev pub arrays_left : Job → Call → Arrays
arrays_left j (shape n checks b) = j.arrays
arrays_left j (encode f) = j.arrays
arrays_left j (locate words f) = j.arrays
arrays_left j (repair f) = j.arrays
arrays_left j (start words f) = started j.head.shape j.arrays words f
arrays_left j next = stepped j.head.shape j.arrays
arrays_left j peek = j.arrays

-- a call refused by the number k leaves the frame as it was lent, marks nothing and tells of no column tried; the job is shaped after a late refusal, and as
-- it was after any other
pub record Refused (j : Job) (c : Call) (k : ℕ) (o : Outcome) : Type 0 where
  pub frame : o.frame ≡ lent_to c
  pub marks : o.marks ≡ no_columns
  pub tried : o.tried ≡ 0
  pub shaped : late k ≡ true → LeftShaped j.head.shape (arrays_left j c) o.job
  pub kept : late k ≡ false → o.job ≡ j

pub record Demand1 : Type 0 where
  pub exact : (j : Job) (c : Call) (k : ℕ) → ((step j c).answer ≡ refused k) ↔ First k ((reasons j c).keeping ++ (reasons j c).shaping)
  pub left : (j : Job) (c : Call) (k : ℕ) → (step j c).answer ≡ refused k → Refused j c k (step j c)
  pub by-sums :
      (j : Job) (words f : List ℕ) (k : ℕ) →
      ((by_sums j words f).answer ≡ refused k) ↔
      First k ((reasons j (locate words f)).keeping ++ by_sums_reasons j.head.shape (declared_by words) f)
