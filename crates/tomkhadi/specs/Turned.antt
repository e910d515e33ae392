-- One turn of the program: bytes come after those of the window, and the lines that are due are handed over to be written. A run of such turns from an empty
-- window to one that is over hands over the text of all that came (`Runs` in lines/specs/Runs.antt).
use Rattle.std.specs.Prelude.{◌≡◌, ◌⊎◌, true, List, [], ℕ, ◌+◌, ◌≤◌, ◌<◌, length, take}
use Rattle.lines.specs.Lines.{text_of}
use Rattle.lines.specs.Runs.{Turn}
use Rattle.window.specs.Window.{unused, Inside, is_over}
use Rattle.window.specs.declared.input.Window.{Window}

pub record Turned (before : List ℕ) (w : Window) (after out : List ℕ) (r : Window) : Type 0 where
  pub inside : Inside r after
  -- what came, and how many bytes of `out` are handed over
  pub came : List ℕ
  pub used : ℕ
  pub fits : used ≤ length out
  pub turn : Turn (unused w before) w.more came (take used out) (unused r after) r.more
  -- it stops where no line is due, or where the next one may not fit
  pub stops : (text_of r.more (unused r after) ≡ []) ⊎ (length out < used + 1024)
  -- it hands something over, or all is over
  pub goes_on : (is_over r ≡ true) ⊎ (0 < used)
