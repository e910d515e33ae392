-- What encoding asks of a frame.
use Rattle.std.specs.Prelude.{◌≡◌, true, List, ℕ, ◌*◌, length}
use Rattle.frame.specs.Encode.{data_below}
use Rattle.frame.specs.Shape.{is_shape}
use Rattle.frame.specs.declared.Shape.{Shape}

-- the check cells of a frame are filled from its data cells
pub record EncodableFrame (s : Shape) (frame : List ℕ) : Type 0 where
  pub shape : is_shape s ≡ true
  pub whole : length frame ≡ s.rows * s.columns
  pub small : data_below s frame ≡ true
