-- Jobs (SPECIFICATION.md, "Jobs"): a head, and the arrays beside it. The empty one, a shaped one, an unfinished one, a located one; and which values are
-- sound.
use Rattle.std.specs.Prelude.{Bool, true, false, not, ◌&&◌, ◌||◌, List, ◌++◌, ℕ, ◌-◌, ltb, eqb, length, get_or, replicate}
use Rattle.columns.specs.Columns.{columns_of, has, members}
use Rattle.columns.specs.declared.Columns.{Columns}
use Rattle.decoding.specs.Locating.{rows_reach}
use Rattle.decoding.specs.Remaining.{left_reach}
use Rattle.frame.specs.DeclaredCells.{Declared, declared_by, declarable}
use Rattle.frame.specs.Shape.{is_shape}
use Rattle.frame.specs.declared.Shape.{Shape}
use Rattle.lists.specs.Tabulate.{every}
use Rattle.slices.specs.Synthesis.{Synthesis, no_synthesis, last_step_of, synthesis_sound}
use Rattle.job.specs.declared.Head.{Head}
use Rattle.job.specs.declared.Phase.{Phase}
use Rattle.job.specs.declared.Phase.TheVariants.{Empty, Shaped, Unfinished, Located}

-- what is lent beside the head and written in place: the check sums of all rows, row after row; the taps of the register; the declared cells; and what is kept
-- of a search for a register in slices
pub record Arrays : Type 0 where
  pub sums : List ℕ
  pub taps : List ℕ
  pub declared : List ℕ
  pub synthesis : Synthesis

pub record Job : Type 0 where
  pub head : Head
  pub arrays : Arrays

abbrev pub beside : Head → Arrays → Job
beside h a = record { head = h; arrays = a }

-- The arrays with other taps; with all that locating finds; with what repair reads; with what start keeps; with what a step changes. A call says what it does
-- for all arrays that it is not lent, and through these.
abbrev pub with_taps : Arrays → (taps : List ℕ) → Arrays
with_taps a taps = record { sums = a.sums; taps = taps; declared = a.declared; synthesis = a.synthesis }

abbrev pub with_found : Arrays → (sums taps declared : List ℕ) → Arrays
with_found a sums taps declared = record { sums = sums; taps = taps; declared = declared; synthesis = a.synthesis }

abbrev pub with_read : Arrays → (sums declared : List ℕ) → Arrays
with_read a sums declared = record { sums = sums; taps = a.taps; declared = declared; synthesis = a.synthesis }

abbrev pub with_started : Arrays → (sums declared : List ℕ) → Synthesis → Arrays
with_started a sums declared x = record { sums = sums; taps = a.taps; declared = declared; synthesis = x }

abbrev pub with_synthesis : Arrays → Synthesis → Arrays
with_synthesis a x = record { sums = a.sums; taps = a.taps; declared = a.declared; synthesis = x }

-- zeros
abbrev pub no_arrays : Arrays
no_arrays = record { sums = replicate 512 0; taps = replicate 65 0; declared = replicate 32 0; synthesis = no_synthesis }

unfoldable pub no_columns : Columns
no_columns = columns_of (λ i. false)

abbrev pub empty_head : Head
empty_head =
    record {
      phase = Empty;
      shape = record { rows = 0; columns = 0; checks = replicate 8 0; exponent = 0 };
      columns = no_columns;
    }

abbrev pub shaped_head : Shape → Head
shaped_head s = record { phase = Shaped; shape = s; columns = no_columns }

abbrev pub unfinished_head : Shape → Head
unfinished_head s = record { phase = Unfinished; shape = s; columns = no_columns }

abbrev pub located_head : Shape → (c : ℕ) (J : Columns) → Head
located_head s c J = record { phase = Located c true; shape = s; columns = J }

-- beside an empty or shaped head the arrays may hold anything
abbrev pub empty_job : Arrays → Job
empty_job a = beside empty_head a

abbrev pub shaped_job : Shape → Arrays → Job
shaped_job s a = beside (shaped_head s) a

-- an unfinished one holds the sums, the declared cells and what is kept of the search
abbrev pub unfinished_job : Shape → Arrays → Job
unfinished_job s a = beside (unfinished_head s) a

-- a located job holds the sums, the taps, then zeros, the declared cells, and the columns named
abbrev pub located_job : Shape → Arrays → (c : ℕ) (sums taps declared : List ℕ) (J : Columns) → Job
located_job s a c sums taps declared J =
    beside (located_head s c J) (with_found a sums (taps ++ replicate (65 - length taps) 0) declared)

-- what a located job of length c and alone mark a must hold
unfoldable pub findings_sound : Shape → (J : Columns) (c : ℕ) (a : Bool) → Bool
findings_sound s J c a =
    a &&
    (every 256 (λ i. not (has J i) || ltb i s.columns) &&
    (eqb (length (members J)) c && rows_reach s c))

-- A head that a list of calls can leave meets this. One that does not, made by nobody's call, counts as empty. The arrays play no part.
unfoldable pub phase_sound : Phase → Shape → (J : Columns) → Bool
phase_sound Empty s J = true
phase_sound Shaped s J = is_shape s
phase_sound Unfinished s J = is_shape s
phase_sound (Located c a) s J = is_shape s && findings_sound s J c a

unfoldable pub head_sound : Head → Bool
head_sound h = phase_sound h.phase h.shape h.columns

abbrev pub sound : Job → Bool
sound j = head_sound j.head

abbrev pub is_empty_phase : Phase → Bool
is_empty_phase Empty = true
is_empty_phase Shaped = false
is_empty_phase Unfinished = false
is_empty_phase (Located c a) = false

abbrev pub is_located_phase : Phase → Bool
is_located_phase Empty = false
is_located_phase Shaped = false
is_located_phase Unfinished = false
is_located_phase (Located c a) = true

abbrev pub is_unfinished_phase : Phase → Bool
is_unfinished_phase Empty = false
is_unfinished_phase Shaped = false
is_unfinished_phase Unfinished = true
is_unfinished_phase (Located c a) = false

-- the length that a located job carries
abbrev pub length_of : Phase → ℕ
length_of Empty = 0
length_of Shaped = 0
length_of Unfinished = 0
length_of (Located c a) = c

-- the declared cells that a job holds
abbrev pub declared_in : Job → Declared
declared_in j = declared_by j.arrays.declared

-- Cells with which a locate can leave a job of length c: they can be declared, and each row has c checks left.
unfoldable pub declared_sound : Shape → Declared → (c : ℕ) → Bool
declared_sound s D c = declarable s D && left_reach s D c

-- The job is located. One that holds declared cells with which no locate leaves it, made by nobody's call, counts as shaped.
abbrev pub is_located : Job → Bool
is_located j =
    is_located_phase j.head.phase && declared_sound j.head.shape (declared_in j) (length_of j.head.phase)

-- what the last step of a search reads besides: sums that are residues, and cells that can be declared
unfoldable pub end_sound : Shape → Arrays → Bool
end_sound s a = every 512 (λ k. ltb (get_or a.sums k 0) 257) && declarable s (declared_by a.declared)

-- Arrays with which a start or a step can leave an unfinished job, as far as the next step reads them.
unfoldable pub step_sound : Shape → Arrays → Bool
step_sound s a =
    synthesis_sound s.rows a.synthesis && (not (last_step_of s.rows a.synthesis) || end_sound s a)

-- The job is unfinished. One that holds other arrays, made by nobody's call, counts as shaped.
abbrev pub is_unfinished : Job → Bool
is_unfinished j = is_unfinished_phase j.head.phase && step_sound j.head.shape j.arrays

-- the job counts as empty: refusal 21
unfoldable pub counts_empty : Head → Bool
counts_empty h = is_empty_phase h.phase || not (head_sound h)

abbrev pub is_empty : Job → Bool
is_empty j = counts_empty j.head
