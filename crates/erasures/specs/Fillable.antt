-- What filling a frame at its marked and declared columns asks: that the cells could be declared, that the marked columns are in the frame and no more
-- than any row has checks left, and that the check sums are those of the frame as read (SPECIFICATION.md, "Declared cells").
use Rattle.std.specs.Prelude.{◌≡◌, true, List, ℕ, ◌*◌, ◌<◌, length, get_or}
use Rattle.columns.specs.Columns.{has, members}
use Rattle.columns.specs.declared.Columns.{Columns}
use Rattle.decoding.specs.Remaining.{left_reach}
use Rattle.frame.specs.DeclaredCells.{as_read, declarable, declared_by, undeclared_below}
use Rattle.frame.specs.Frame.{held_sums}
use Rattle.frame.specs.Shape.{is_shape}
use Rattle.frame.specs.declared.Shape.{Shape}

-- the rows of a frame as read are filled
pub record FillableRows (s : Shape) (declared : List ℕ) (marked : Columns) (sums frame : List ℕ) : Type 0 where
  pub shape : is_shape s ≡ true
  pub whole : length frame ≡ s.rows * s.columns
  pub small : (k : ℕ) → k < length frame → get_or frame k 0 < 257
  pub held : sums ≡ held_sums s frame
  pub below : (i : ℕ) → has marked i ≡ true → i < s.columns
  pub declarable : declarable s (declared_by declared) ≡ true
  pub reach : left_reach s (declared_by declared) (length (members marked)) ≡ true

-- a frame is filled
pub record Fillable (s : Shape) (declared : List ℕ) (marked : Columns) (sums frame : List ℕ) : Type 0 where
  pub shape : is_shape s ≡ true
  pub whole : length frame ≡ s.rows * s.columns
  pub small : undeclared_below s (declared_by declared) frame ≡ true
  pub held : sums ≡ held_sums s (as_read s (declared_by declared) frame)
  pub below : (i : ℕ) → has marked i ≡ true → i < s.columns
  pub declarable : declarable s (declared_by declared) ≡ true
  pub reach : left_reach s (declared_by declared) (length (members marked)) ≡ true
