-- What is written of the answers that the functions return: how many numbers, and the line of what the finder answers and leaves in its tap buffer.
use Rattle.std.specs.Prelude.{List, ℕ, ◌+◌, ◌≤◌, Result, Ok, Err, length, take}
use Rattle.columns.specs.Columns.{members}
use Rattle.columns.specs.declared.Columns as Marks
use Rattle.finder.specs.Finder.{register}
use Rattle.finder.specs.declared.Register.{Register}
use Rattle.job.specs.declared.Progress.{Progress}
use Rattle.job.specs.declared.Progress.TheVariants.{Columns, Unfinished}
use Rattle.refusal.specs.Number.{number}
use Rattle.refusal.specs.declared.Refusal.{Refusal}
use Rattle.text.specs.Line.{refusal_line, register_line}

-- how many entries of the buffer hold taps
abbrev pub tap_count : Result Register Refusal → ℕ
tap_count (Ok r) = r.length + 1
tap_count (Err k) = 0

abbrev pub found_line : Result Register Refusal → (left : List ℕ) → List ℕ
found_line (Ok r) left = register_line (register r.length r.alone) (take (r.length + 1) left)
found_line (Err k) left = refusal_line (number k)

-- the number of columns to mend
abbrev pub column_count : Result Progress Refusal → ℕ
column_count (Ok (Columns c)) = c
column_count (Ok Unfinished) = 0
column_count (Err k) = 0

-- a line of columns fits after `at`: there is room for 1024 bytes, and neither the number of columns nor the columns are more than 64
pub record FewColumns (out : List ℕ) (at count : ℕ) (marks : Marks.Columns) : Type 0 where
  pub room : at + 1024 ≤ length out
  pub few : count ≤ 64
  pub few-marks : length (members marks) ≤ 64

-- a line of a register fits after `at`: there is room for 1024 bytes, its length is 128 at most, and its taps are 129 at most
pub record FewTaps (out : List ℕ) (at size : ℕ) (taps : List ℕ) : Type 0 where
  pub room : at + 1024 ≤ length out
  pub short : size ≤ 128
  pub few : length taps ≤ 129

-- the line of what the finder answered fits after `at`, and the buffer holds all taps of the register
pub record TapsHeld (out : List ℕ) (at : ℕ) (found : Result Register Refusal) (taps : List ℕ) : Type 0 where
  pub room : at + 1024 ≤ length out
  pub few : length taps ≤ 129
  pub held : tap_count found ≤ length taps
