-- `erasures::reading::read_into` meets its contract.
use native.Mathlib.Omega.{arith}
use Rattle.frame.proofs.RowPlace.{frame_small}
use Rattle.erasures.proofs.reading.read_into.Goals as goal

pub slice_bounds-copy_from_slice-end : goal.slice_bounds-copy_from_slice-end
slice_bounds-copy_from_slice-end c = omega (arith, frame_small _ c.requires.shape, c.requires.whole)
