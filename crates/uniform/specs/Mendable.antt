-- What is asked where a frame is judged as it will be once it is filled at its marked and declared columns: that the cells could be declared, and that the
-- marked columns are in the frame and no more than any row has checks left (SPECIFICATION.md, "Declared cells").
use Rattle.std.specs.Prelude.{◌≡◌, true, List, ℕ, ◌*◌, ◌≤◌, ◌<◌, length}
use Rattle.columns.specs.Columns.{either, has, members}
use Rattle.columns.specs.declared.Columns.{Columns}
use Rattle.decoding.specs.Remaining.{left_reach}
use Rattle.frame.specs.DeclaredCells.{declarable, declared_by, undeclared_below}
use Rattle.frame.specs.Shape.{is_shape}
use Rattle.frame.specs.declared.Shape.{Shape}

-- the frame, its declared cells and marked columns
pub record Mendable (s : Shape) (declared : List ℕ) (marked : Columns) (frame : List ℕ) : Type 0 where
  pub shape : is_shape s ≡ true
  pub whole : length frame ≡ s.rows * s.columns
  pub small : undeclared_below s (declared_by declared) frame ≡ true
  pub below : (i : ℕ) → has marked i ≡ true → i < s.columns
  pub declarable : declarable s (declared_by declared) ≡ true
  pub reach : left_reach s (declared_by declared) (length (members marked)) ≡ true

-- a symbol, and no more marked and declared columns in a row than it can have checks
pub record SummedSets (s : Shape) (declared : List ℕ) (marked : Columns) (a : ℕ) : Type 0 where
  pub shape : is_shape s ≡ true
  pub few : (h : ℕ) → h < s.rows → length (members (either marked (declared_by declared h))) ≤ 64
  pub symbol : a < 257
