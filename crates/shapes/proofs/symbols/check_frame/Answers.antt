-- `shapes::symbols::check_frame` meets its contract.
use native.Mathlib.Omega.{arith}
use Rattle.frame.proofs.RowPlace.{frame_small}
use Rattle.shapes.proofs.symbols.check_frame.Goals as goal

pub overflow_mul-s : goal.overflow_mul-s
overflow_mul-s c = omega (arith, frame_small _ c.requires)
