-- What is put into the output for the bytes of a window: one line for each of its records, in their order, and no byte of a record that is not all there is
-- lost while more input may come.
use Rattle.std.specs.Prelude.{◌≡◌, ◌⊎◌, true, List, [], ◌++◌, ℕ, ◌+◌, ◌≤◌, ◌<◌, length, take}
use Rattle.lines.specs.Lines.{rest_of, text_of}
use Rattle.window.specs.Window.{unused}
use Rattle.window.specs.declared.input.Window.{Window}
use Rattle.window.specs.declared.output.Put.{Put}

-- the bytes of the window from `start` on
abbrev pub unused_from : (start : ℕ) → Window → (buffer : List ℕ) → List ℕ
unused_from start w buffer = unused (record { start = start; end = w.end; more = w.more }) buffer

pub record Lined (buffer : List ℕ) (w : Window) (out : List ℕ) (r : Put) : Type 0 where
  pub after : w.start ≤ r.start
  pub within : r.start ≤ w.end
  pub fits : r.used ≤ length out
  -- what is to be written for the window is what is put, and then what is to be written for the bytes that are left
  pub lines : text_of w.more (unused w buffer) ≡ take r.used out ++ text_of w.more (unused_from r.start w buffer)
  pub rest : w.more ≡ true → rest_of (unused w buffer) ≡ rest_of (unused_from r.start w buffer)
  -- it stops where no line is due, or where the next one may not fit
  pub stops : (text_of w.more (unused_from r.start w buffer) ≡ []) ⊎ (length out < r.used + 1024)
