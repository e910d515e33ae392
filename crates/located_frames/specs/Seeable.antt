-- What locating a frame by its check sums and its cells asks.
use Rattle.std.specs.Prelude.{◌≡◌, Bool, true, List, ℕ, ◌*◌, length}
use Rattle.frame.specs.DeclaredCells.{declared_by, undeclared_below}
use Rattle.frame.specs.declared.Shape.{Shape}
use Rattle.from_register.specs.Register.{Locatable}

-- sums to locate from, and a frame of the shape's size with symbols in the cells that are not declared
pub record Seeable (s : Shape) (none : Bool) (declared sums frame : List ℕ) : Type 0 where
  pub locatable : Locatable s none declared sums
  pub whole : length frame ≡ s.rows * s.columns
  pub small : undeclared_below s (declared_by declared) frame ≡ true
