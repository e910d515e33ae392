-- How heads of jobs and answers cross the C interface: as structs of numbers and arrays. An exported function can return no enum, so the phase is a number.
use Rattle.std.specs.Prelude.{◌≡◌, ◌↔◌, Bool, true, false, cond, ◌||◌, List, [], ◌∷◌, ℕ, eqb}
use Rattle.columns.specs.Columns.{columns_of}
use Rattle.finder.specs.Finder as Finder
use Rattle.job.specs.Calls as Calls
use Rattle.refusal.specs.Outcome as Tested
use Rattle.search.specs.Search as Search
use Rattle.frame.specs.Shape.{shape_of}
use Rattle.job.specs.Calls.{Call, Outcome, step}
use Rattle.job.specs.Runs.{IsRefused}
use Rattle.job.specs.Job.{Job, no_columns, empty_head, unfinished_head, located_head}
use Rattle.job.specs.declared.Head.{Head}
use Rattle.job.specs.declared.Phase.{Phase}
use Rattle.job.specs.declared.Phase.TheVariants.{Empty, Shaped, Unfinished, Located}
use Rattle.columns.specs.declared.Columns.{Columns}
use Rattle.mirror.specs.declared.CAnswer.{CAnswer}
use Rattle.mirror.specs.declared.CAnswered.{CAnswered}
use Rattle.mirror.specs.declared.CColumns.{CColumns}
use Rattle.mirror.specs.declared.CHead.{CHead}
use Rattle.mirror.specs.declared.CPeeked.{CPeeked}
use Rattle.mirror.specs.declared.CRegister.{CRegister}
use Rattle.mirror.specs.declared.CShaped.{CShaped}

-- 1, 2 and 3 are shaped, located and unfinished; every other number is empty. The register is alone where the mark is 1.
abbrev pub phase_of : (phase length alone : ℕ) → Phase
phase_of k c a = cond (eqb k 1) Shaped (cond (eqb k 2) (Located c (eqb a 1)) (cond (eqb k 3) Unfinished Empty))

-- the head that a struct of C stands for, whatever its numbers are
abbrev pub head_of : CHead → Head
head_of m =
    record {
      phase = phase_of m.phase m.length m.alone;
      shape = record { rows = m.rows; columns = m.columns; checks = m.checks; exponent = m.exponent };
      columns = record { words = m.marks };
    }

-- 1 for true
abbrev pub mark_of : Bool → ℕ
mark_of true = 1
mark_of false = 0

-- a phase in three numbers; those of what only a located job has are 0 elsewhere
abbrev pub phase_number : Phase → ℕ
phase_number Empty = 0
phase_number Shaped = 1
phase_number Unfinished = 3
phase_number (Located c a) = 2

abbrev pub phase_length : Phase → ℕ
phase_length Empty = 0
phase_length Shaped = 0
phase_length Unfinished = 0
phase_length (Located c a) = c

abbrev pub phase_alone : Phase → ℕ
phase_alone Empty = 0
phase_alone Shaped = 0
phase_alone Unfinished = 0
phase_alone (Located c a) = mark_of a

-- the struct of C that stands for a head
abbrev pub mirror_of : Head → CHead
mirror_of j =
    record {
      phase = phase_number j.phase;
      alone = phase_alone j.phase;
      length = phase_length j.phase;
      rows = j.shape.rows;
      columns = j.shape.columns;
      marks = j.columns.words;
      checks = j.shape.checks;
      exponent = j.shape.exponent;
    }

-- A head that goes through the C interface and comes back is the same head, whatever it holds. Proved, as the three mirrors below, in proofs/RoundTrip.antt.
abbrev pub ThereAndBack : Type 0
ThereAndBack = (j : Head) → head_of (mirror_of j) ≡ j

-- an empty head is zeros
abbrev pub EmptyMirror : Type 0
EmptyMirror =
    mirror_of empty_head ≡
    record {
      phase = 0;
      alone = 0;
      length = 0;
      rows = 0;
      columns = 0;
      marks = 0 ∷ 0 ∷ 0 ∷ 0 ∷ [];
      checks = 0 ∷ 0 ∷ 0 ∷ 0 ∷ 0 ∷ 0 ∷ 0 ∷ 0 ∷ [];
      exponent = 0;
    }

-- of one row and 20 columns, of a job with an unfinished locate
abbrev pub UnfinishedMirror : Type 0
UnfinishedMirror =
    mirror_of (unfinished_head (shape_of 20 (6 ∷ []) 1)) ≡
    record {
      phase = 3;
      alone = 0;
      length = 0;
      rows = 1;
      columns = 20;
      marks = 0 ∷ 0 ∷ 0 ∷ 0 ∷ [];
      checks = 6 ∷ 0 ∷ 0 ∷ 0 ∷ 0 ∷ 0 ∷ 0 ∷ 0 ∷ [];
      exponent = 1;
    }

-- a head of two rows and 256 columns whose check sums begin at the exponent 7, located at the columns 0, 65 and 255
abbrev pub LocatedMirror : Type 0
LocatedMirror =
    mirror_of (located_head (shape_of 256 (4 ∷ 64 ∷ []) 7) 3 (columns_of (λ i. eqb i 0 || (eqb i 65 || eqb i 255)))) ≡
    record {
      phase = 2;
      alone = 1;
      length = 3;
      rows = 2;
      columns = 256;
      marks = 1 ∷ 2 ∷ 0 ∷ 9223372036854775808 ∷ [];
      checks = 4 ∷ 64 ∷ 0 ∷ 0 ∷ 0 ∷ 0 ∷ 0 ∷ 0 ∷ [];
      exponent = 7;
    }

-- the number of a refusal, and 0 where nothing is refused
abbrev pub refusal_of : Calls.Answer → ℕ
refusal_of Calls.done = 0
refusal_of (Calls.columns c) = 0
refusal_of Calls.unfinished = 0
refusal_of (Calls.shortest l) = 0
refusal_of (Calls.refused k) = k

-- the same of tests alone
abbrev pub refusal_number : Tested.Outcome → ℕ
refusal_number Tested.passed = 0
refusal_number (Tested.refused k) = k

-- the number of columns, and 0 where none are answered
abbrev pub count_of : Calls.Answer → ℕ
count_of Calls.done = 0
count_of (Calls.columns c) = c
count_of Calls.unfinished = 0
count_of (Calls.shortest l) = 0
count_of (Calls.refused k) = 0

-- 1 where a locate is answered to be unfinished
abbrev pub unfinished_of : Calls.Answer → ℕ
unfinished_of Calls.done = 0
unfinished_of (Calls.columns c) = 0
unfinished_of Calls.unfinished = 1
unfinished_of (Calls.shortest l) = 0
unfinished_of (Calls.refused k) = 0

-- the length of a shortest register, and 0 where none is answered
abbrev pub shortest_of : Calls.Answer → ℕ
shortest_of Calls.done = 0
shortest_of (Calls.columns c) = 0
shortest_of Calls.unfinished = 0
shortest_of (Calls.shortest l) = l
shortest_of (Calls.refused k) = 0

-- what the finder returns
abbrev pub register_of : Finder.Answer → CRegister
register_of (Finder.register l a) = record { refusal = 0; alone = mark_of a; length = l }
register_of (Finder.refused k) = record { refusal = k; alone = 0; length = 0 }

-- what search returns
abbrev pub columns_for : Search.Answer → CColumns
columns_for a =
    record { refusal = refusal_number a.outcome; tried = a.sought.tried; marks = a.sought.columns.words }

-- what shape returns
abbrev pub shaped_of : Outcome → CShaped
shaped_of o = record { refusal = refusal_of o.answer; head = mirror_of o.job.head }

-- what peek returns
abbrev pub peeked_of : Calls.Answer → CPeeked
peeked_of a = record { refusal = refusal_of a; length = shortest_of a }

-- what start, step, locate and repair answer
abbrev pub answer_of : Calls.Answer → (marks : Columns) (tried : ℕ) → CAnswer
answer_of a marks tried =
    record { refusal = refusal_of a; unfinished = unfinished_of a; count = count_of a; tried = tried; marks = marks.words }

-- and return
abbrev pub answered_of : Outcome → CAnswered
answered_of o = record { answer = answer_of o.answer o.marks o.tried; head = mirror_of o.job.head }

-- What stands in the struct of an answer, whatever is counted and tried, and whatever job and frame are left: of the columns 0, 65 and 255, of a locate
-- that is unfinished, of a length, of a search that finds these columns, and of a call or a search refused by k, which carries the number alone. Proved in
-- proofs/RoundTrip.antt.
pub record AnswerMirrors : Type 0 where
  pub answered :
      (c t : ℕ) (j : Job) (f : List ℕ) →
      (answered_of
      (record { answer = Calls.columns c; marks = columns_of (λ i. eqb i 0 || (eqb i 65 || eqb i 255)); tried = t; job = j; frame = f })).answer ≡
      record { refusal = 0; unfinished = 0; count = c; tried = t; marks = 1 ∷ 2 ∷ 0 ∷ 9223372036854775808 ∷ [] }
  pub unfinished :
      (j : Job) (f : List ℕ) →
      (answered_of (record { answer = Calls.unfinished; marks = no_columns; tried = 0; job = j; frame = f })).answer ≡
      record { refusal = 0; unfinished = 1; count = 0; tried = 0; marks = 0 ∷ 0 ∷ 0 ∷ 0 ∷ [] }
  pub refused :
      (k : ℕ) (j : Job) (f : List ℕ) →
      (answered_of (Calls.refusing j f k)).answer ≡
      record { refusal = k; unfinished = 0; count = 0; tried = 0; marks = 0 ∷ 0 ∷ 0 ∷ 0 ∷ [] }
  pub peeked : (l : ℕ) → peeked_of (Calls.shortest l) ≡ record { refusal = 0; length = l }
  pub peek-refused : (k : ℕ) → peeked_of (Calls.refused k) ≡ record { refusal = k; length = 0 }
  pub searched :
      (t : ℕ) →
      columns_for (record { outcome = Tested.passed; sought = record { columns = columns_of (λ i. eqb i 0 || (eqb i 65 || eqb i 255)); tried = t } }) ≡
      record { refusal = 0; tried = t; marks = 1 ∷ 2 ∷ 0 ∷ 9223372036854775808 ∷ [] }
  pub search-refused :
      (k : ℕ) →
      columns_for (record { outcome = Tested.refused k; sought = Search.nothing }) ≡
      record { refusal = k; tried = 0; marks = 0 ∷ 0 ∷ 0 ∷ 0 ∷ [] }

-- C reads off the number whether something is refused: it is 0 exactly where nothing is. Proved in proofs/Zero.antt.
pub record ZeroIsNoRefusal : Type 0 where
  pub call : (j : Job) (c : Call) → (refusal_of (step j c).answer ≡ 0) ↔ (IsRefused (step j c) → ⊥)
  pub find : (p : ℕ) (lengths symbols : List ℕ) (room : ℕ) →
      ((register_of (Finder.answer p lengths symbols room)).refusal ≡ 0) ↔ ((k : ℕ) → Finder.answer p lengths symbols room ≡ Finder.refused k → ⊥)
  pub search : (n : ℕ) (σ : List ℕ) →
      ((columns_for (Search.answer n σ)).refusal ≡ 0) ↔ ((k : ℕ) → (Search.answer n σ).outcome ≡ Tested.refused k → ⊥)
