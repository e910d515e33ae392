-- Whether rows can be completed, row by row, and what testing it asks (SPECIFICATION.md, "Declared cells").
use Rattle.std.specs.Prelude.{◌≡◌, Bool, true, not, ◌||◌, List, ℕ, ◌≤◌, ◌<◌, length, get_or}
use Rattle.columns.specs.Columns.{either, members}
use Rattle.columns.specs.declared.Columns.{Columns}
use Rattle.decoding.specs.Remaining.{remaining, left_reach, meets}
use Rattle.field257.specs.Table.{table}
use Rattle.frame.specs.DeclaredCells.{Declared, declarable}
use Rattle.frame.specs.Shape.{is_shape}
use Rattle.frame.specs.declared.Shape.{Shape}
use Rattle.sequences.specs.Zeros.{all_zero}

-- a row with the sums x can be completed at J: with its columns taken out, what is left of the sums is 0
abbrev pub completable_at : (J : Columns) (x : List ℕ) → Bool
completable_at J x = all_zero (remaining J x)

-- a set of columns, of which there are no more than sums, is tested
pub record TestableAt (powers : List ℕ) (set : Columns) (sums : List ℕ) : Type 0 where
  pub powers_known : powers ≡ table
  pub few : length (members set) ≤ length sums
  pub sums-few : length sums ≤ 64
  pub sums-small : (k : ℕ) → get_or sums k 0 < 257

-- a row with the sums x passes: no marked column is declared, or it can be completed
abbrev pub passes_row : (M J : Columns) (x : List ℕ) → Bool
passes_row M J x = not (meets M J) || completable_at (either M J) x

-- the marked and declared columns of each row are tested, against the sums that are held
pub record Testable (s : Shape) (D : Declared) (marked : Columns) (sums : List ℕ) : Type 0 where
  pub shape : is_shape s ≡ true
  pub declared : declarable s D ≡ true
  pub reach : left_reach s D (length (members marked)) ≡ true
  pub sums-small : (k : ℕ) → get_or sums k 0 < 257
