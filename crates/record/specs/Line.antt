-- The line that the program writes for a record (SPECIFICATION.md, "Records and lines").
use Rattle.std.specs.Prelude.{List, [], ℕ}
use Rattle.finder.specs.Finder.{answer}
use Rattle.job.specs.Calls as Calls
use Rattle.job.specs.Calls.{Outcome, step}
use Rattle.job.specs.Job.{empty_job, no_arrays}
use Rattle.job.specs.NothingDeclared.{no_words}
use Rattle.register.specs.Algorithm4.{found}
use Rattle.register.specs.Sequences.{longest, split}
use Rattle.record.specs.Record.{Record, bad, sequences, frame, record_of}
use Rattle.text.specs.Line.{refusal_line, register_line, columns_line}

-- the line of a frame located, with nothing declared, on an empty job that was given its shape; refusals of the shape come first
unfoldable pub frame_line : Calls.Answer → (shaped located : Outcome) → List ℕ
frame_line Calls.done shaped located = columns_line located.answer located.marks
frame_line (Calls.columns c) shaped located = []
frame_line Calls.unfinished shaped located = []
frame_line (Calls.shortest l) shaped located = []
frame_line (Calls.refused k) shaped located = refusal_line k

-- The finder's tap buffer has room for the longest length taken, 129 entries, so refusal 8 does not occur.
unfoldable pub output_of : Record → List ℕ
output_of bad = refusal_line 9
output_of (sequences p lengths symbols) =
    let ss : List (List ℕ) = split lengths symbols in
    register_line (answer p lengths symbols 129) (found p ss (longest ss)).taps
output_of (frame n checks symbols) =
    let shaped : Outcome = step (empty_job no_arrays) (Calls.shape n checks 1) in
    frame_line shaped.answer shaped (step shaped.job (Calls.locate no_words symbols))

-- from the bytes got of a record, its length first, to the text of its line
unfoldable pub line_of : List ℕ → List ℕ
line_of bytes = output_of (record_of bytes)
