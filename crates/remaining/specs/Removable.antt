-- What taking columns out of check sums asks (SPECIFICATION.md, "Declared cells").
use Rattle.std.specs.Prelude.{◌≡◌, true, List, ℕ, ◌-◌, ◌≤◌, ◌<◌, length, get_or}
use Rattle.columns.specs.Columns.{members}
use Rattle.columns.specs.declared.Columns.{Columns}
use Rattle.field257.specs.Table.{table}
use Rattle.frame.specs.DeclaredCells.{Declared, declarable}
use Rattle.frame.specs.Shape.{is_shape}
use Rattle.frame.specs.declared.Shape.{Shape}

-- the columns of a set are taken out of the sums of a row, and what is left has its places
pub record Removable (powers : List ℕ) (set : Columns) (sums left : List ℕ) : Type 0 where
  pub powers_known : powers ≡ table
  pub few : length (members set) ≤ 64
  pub sums-few : length sums ≤ 64
  pub sums-small : (k : ℕ) → get_or sums k 0 < 257
  pub places : length left ≡ length sums - length (members set)

-- the declared cells of each row are taken out of the sums that are held
pub record RemovableRows (s : Shape) (D : Declared) (sums : List ℕ) : Type 0 where
  pub shape : is_shape s ≡ true
  pub declared : declarable s D ≡ true
  pub sums-small : (k : ℕ) → get_or sums k 0 < 257
