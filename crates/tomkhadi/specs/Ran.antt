-- The whole run of the program: turns one after the other, from nothing to the window that is answered. It stops where the input has ended and all of it is
-- used, and nowhere else before the 2^64 − 1 turns of its counter are made.
use Rattle.std.specs.Prelude.{◌≡◌, ◌⊎◌, true, List, [], ◌∷◌, ◌++◌, ℕ, ◌-◌, ◌^◌, ◌<◌, ◌≤◌, length}
use Rattle.lines.specs.Lines.{lines_of}
use Rattle.lines.specs.Runs.{Step, Turns, came_in, handed_in}
use Rattle.window.specs.Window.{unused, is_over}
use Rattle.window.specs.declared.input.Window.{Window}

-- all turns of the counter are made, and each handed over a byte or more
abbrev pub UsedUp : List Step → Type 0
UsedUp steps = (length steps ≡ 2 ^ 64 - 1) × (2 ^ 64 - 1 ≤ length (handed_in steps))

pub record Ran (buffer : List ℕ) (r : Window) : Type 0 where
  -- what is seen of the turns made
  pub steps : List Step
  pub chain : Turns [] true steps (unused r buffer) r.more
  pub stops : (is_over r ≡ true) ⊎ UsedUp steps
  -- where it is over, the text of all that came is handed over
  pub text : is_over r ≡ true → handed_in steps ≡ lines_of (came_in steps)

-- A write failed, in the turn `last`, which ends the run. The turns before it and it are one after the other, from nothing to a window that it left; those before
-- each handed over a byte or more, and fewer are made than the counter has. What the last one handed over may be written in part.
pub record BrokenOff (buffer : List ℕ) (r : Window) : Type 0 where
  pub steps : List Step
  pub last : Step
  pub chain : Turns [] true (steps ++ (last ∷ [])) (unused r buffer) r.more
  pub count : length steps < 2 ^ 64 - 1
  pub handed : length steps ≤ length (handed_in steps)
