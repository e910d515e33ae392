-- Frames with declared cells, which are read as 0.
use Rattle.std.specs.Prelude.{cond, List, ℕ, ◌+◌, ◌*◌, ◌/◌, ◌%◌, eqb, get_or}
use Rattle.plain_frames.specs.Frames.{marked}

-- the mark of the cell at place k of a frame, which is that of column k mod n in row k / n
abbrev pub mark_at : (words : List ℕ) (columns k : ℕ) → ℕ
mark_at words columns k = marked words (256 * (k / columns) + k % columns)

-- what the cell at place k is read as
abbrev pub read_as : (words : List ℕ) (columns : ℕ) (frame : List ℕ) (k : ℕ) → ℕ
read_as words columns frame k = cond (eqb (mark_at words columns k) 1) 0 (get_or frame k 0)
