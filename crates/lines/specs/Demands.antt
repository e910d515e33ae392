-- Records in the words of SPECIFICATION.md, "Records and lines": which are bad, what the fields of the others say, and which line is owed.
-- Proved in proofs/Demands.antt.
use Rattle.std.specs.Prelude.{◌≡◌, ◌⊎◌, ◌↔◌, Bool, List, [], ◌∷◌, ◌++◌, ℕ, suc, ◌+◌, ◌-◌, ◌*◌, ◌/◌, ◌%◌, ◌^◌, ◌≤◌, ◌<◌, length, take}
use Rattle.columns.specs.Columns.{members}
use Rattle.finder.specs.Demands as Finder
use Rattle.finder.specs.Finder.{register, answer, taps_left}
use Rattle.frame.specs.DeclaredCells.{declared_by, read_reasons}
use Rattle.frame.specs.Demands.{shape_reasons}
use Rattle.frame.specs.Shape.{shape_of}
use Rattle.frame.specs.declared.Shape.{Shape}
use Rattle.job.specs.Calls.{Outcome, shape, locate, done, columns, step}
use Rattle.job.specs.Job.{empty_job, no_arrays}
use Rattle.job.specs.NothingDeclared.{no_words}
use Rattle.job.specs.Refusals.{register_reasons}
use Rattle.lists.specs.Tabulate.{tabulate}
use Rattle.reader.specs.Fields.{field_of}
use Rattle.text.specs.Line.{mark_of, refusal_line}
use Rattle.record.specs.Line.{line_of}
use Rattle.record.specs.Record.{bad, record_of}
use Rattle.text.specs.Text.{line}
use Rattle.refusal.specs.Order.{Reason, First, None}
use Rattle.register.specs.EachRound.{IsShortest}
use Rattle.register.specs.Sequences.{split}
use Rattle.lines.specs.Streams.{EndsInside}

-- Field 0 of a record is its length, field 1 its kind, and the body starts with field 2. A field that is not there reads as 0; the input then ends inside the
-- record, or the record is too short for the field, and each of these is a reason of its own.
abbrev pub size_of : List ℕ → ℕ
size_of r = field_of r 0

abbrev pub kind_of : List ℕ → ℕ
kind_of r = field_of r 1

-- n fields from field number `first` on
abbrev pub fields_from : List ℕ → (first n : ℕ) → List ℕ
fields_from r first n = tabulate n (λ i. field_of r (first + i))

-- the symbols: all fields after the kind, two more, and those that are counted
abbrev pub symbols_after : List ℕ → (counted : ℕ) → List ℕ
symbols_after r counted = fields_from r (4 + counted) (size_of r / 2 - 3 - counted)

-- the bytes got of one record are no more than its length says
abbrev pub OfOneRecord : List ℕ → Type 0
OfOneRecord r = 2 ≤ length r → length r ≤ 2 + size_of r

-- ---- refusal 9, by its five reasons

abbrev pub LengthBelow2 : List ℕ → Type 0
LengthBelow2 r = size_of r < 2

abbrev pub OddLength : List ℕ → Type 0
OddLength r = size_of r % 2 ≡ 1

abbrev pub UnknownKind : List ℕ → Type 0
UnknownKind r = (kind_of r ≡ 1 → ⊥) × (kind_of r ≡ 2 → ⊥)

-- two bytes each: the kind, two fields, and those that the second of them counts in kind 1, the first of them in kind 2
abbrev pub BodyTooShort : List ℕ → Type 0
BodyTooShort r =
    (size_of r < 6) ⊎
    (((kind_of r ≡ 1) × (size_of r < 6 + 2 * field_of r 3)) ⊎ ((kind_of r ≡ 2) × (size_of r < 6 + 2 * field_of r 2)))

abbrev pub Bad : List ℕ → Type 0
Bad r = LengthBelow2 r ⊎ (OddLength r ⊎ (UnknownKind r ⊎ (BodyTooShort r ⊎ EndsInside r)))

abbrev pub bad_reason : List ℕ → Reason
bad_reason r = record { number = 9; holds = Bad r }

-- ---- kind 1: p, count, lengths, symbols

abbrev pub lengths_of : List ℕ → List ℕ
lengths_of r = fields_from r 4 (field_of r 3)

abbrev pub sequence_symbols : List ℕ → List ℕ
sequence_symbols r = symbols_after r (field_of r 3)

-- 9, then the finder's refusals 1, 2, 3, 8, 4; its tap buffer has 129 entries
abbrev pub register_reasons_of : List ℕ → List Reason
register_reasons_of r = bad_reason r ∷ Finder.reasons (field_of r 2) (lengths_of r) (sequence_symbols r) 129

-- the text is `R`, length, alone mark and taps of what the finder answers and leaves in its buffer: a shortest register of the sequences
pub record ShowsRegister (p : ℕ) (lengths symbols text : List ℕ) : Type 0 where
  pub size : ℕ
  pub alone : Bool
  pub taps : List ℕ
  pub written : text ≡ line 82 (size ∷ mark_of alone ∷ taps)
  pub answered : answer p lengths symbols 129 ≡ register size alone
  pub left : (buffer : List ℕ) → length buffer ≡ 129 → take (suc size) (taps_left p lengths symbols buffer) ≡ taps
  pub shortest : IsShortest p size (split lengths symbols) taps alone

-- ---- kind 2: rows, columns, check counts, symbols

abbrev pub check_counts_of : List ℕ → List ℕ
check_counts_of r = fields_from r 4 (field_of r 2)

abbrev pub frame_symbols : List ℕ → List ℕ
frame_symbols r = symbols_after r (field_of r 2)

-- 9; then those of shape, 2, 5, 6: the exponent is 1, so that 32 cannot be; then those of locate on the shaped job, 7, 4, 24, 25, 26: it is not empty, so that
-- 21 cannot be, and nothing is declared, so that 31 cannot be
abbrev pub frame_reasons_of : List ℕ → List Reason
frame_reasons_of r =
    let s : Shape = shape_of (field_of r 3) (check_counts_of r) 1 in
    let f : List ℕ = frame_symbols r in
    bad_reason r ∷ (shape_reasons (field_of r 3) (check_counts_of r) 1 ++ (read_reasons s (declared_by no_words) f ++ register_reasons s (declared_by no_words) f))

-- the text is `F`, the number of columns and the columns, rising, of what locate answers on an empty job that was given its shape, with the exponent 1
pub record ShowsColumns (n : ℕ) (checks symbols text : List ℕ) : Type 0 where
  pub count : ℕ
  pub shaped : Outcome
  pub located : Outcome
  pub written : text ≡ line 70 (count ∷ members located.marks)
  pub shape-done : (shaped ≡ step (empty_job no_arrays) (shape n checks 1)) × (shaped.answer ≡ done)
  pub answered : (located ≡ step shaped.job (locate no_words symbols)) × (located.answer ≡ columns count)

-- ---- the line

-- `E k` exactly where k is the first of the reasons that holds, for every k of up to 20 digits, and what is shown where none holds
pub record Line (reasons : List Reason) (text : List ℕ) (Shown : Type 0) : Type 0 where
  pub refused : (k : ℕ) → k < 10 ^ 20 → (text ≡ refusal_line k) ↔ First k reasons
  pub shown : None reasons → Shown

-- one line: a newline at its end, and no other
abbrev pub NoNewline : List ℕ → Type 0
NoNewline [] = Unit {0}
NoNewline (b ∷ bs) = (b ≡ 10 → ⊥) × NoNewline bs

abbrev pub IsLine : List ℕ → Type 0
IsLine text = (body : List ℕ) × (text ≡ body ++ (10 ∷ [])) × NoNewline body

pub record Records : Type 0 where
  pub one_line : (r : List ℕ) → OfOneRecord r → IsLine (line_of r)
  pub bad_exactly : (r : List ℕ) → OfOneRecord r → (record_of r ≡ bad) ↔ Bad r
  pub unknown : (r : List ℕ) → OfOneRecord r → UnknownKind r → line_of r ≡ refusal_line 9
  pub registers : (r : List ℕ) → OfOneRecord r → kind_of r ≡ 1
      → Line (register_reasons_of r) (line_of r) (ShowsRegister (field_of r 2) (lengths_of r) (sequence_symbols r) (line_of r))
  pub frames : (r : List ℕ) → OfOneRecord r → kind_of r ≡ 2
      → Line (frame_reasons_of r) (line_of r) (ShowsColumns (field_of r 3) (check_counts_of r) (frame_symbols r) (line_of r))
