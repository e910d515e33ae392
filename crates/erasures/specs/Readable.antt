-- What reading a frame of which cells are declared asks (SPECIFICATION.md, "Declared cells").
use Rattle.std.specs.Prelude.{◌≡◌, true, List, ℕ, ◌*◌, length}
use Rattle.frame.specs.Shape.{is_shape}
use Rattle.frame.specs.declared.Shape.{Shape}

-- a frame is read: it is as long as its shape says
pub record ReadableFrame (s : Shape) (frame : List ℕ) : Type 0 where
  pub shape : is_shape s ≡ true
  pub whole : length frame ≡ s.rows * s.columns
