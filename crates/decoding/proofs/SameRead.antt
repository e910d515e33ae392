-- What is located with declared cells depends on the check sums of the frame as read only; and mending a frame is mending it as read, so that code may clear
-- the declared cells first.
use mathlib.Core.Path.{◌≡◌, sym, ap, ◌∙◌}
use mathlib.Core.Bool.{true}
use mathlib.Core.List.{List}
use Prim.Native.Nat.{ℕ}
use Rattle.columns.specs.Columns.{either}
use Rattle.columns.specs.declared.Columns.{Columns}
use Rattle.columns.proofs.Joined.{either-below}
use Rattle.decoding.specs.Remaining.{sums_read, mended}
use Rattle.decoding.proofs.MendedFrame.{Read, cell_below, mended-size, mended-kept, mended-zeros, mended_well_formed}
use Rattle.frame.specs.Frame.{held_sums, held_sequences}
use Rattle.frame.specs.DeclaredCells.{Declared, as_read}
use Rattle.frame.specs.Shape.{is_shape}
use Rattle.frame.specs.declared.Shape.{Shape}
use Rattle.frame.proofs.CompletedFrames.{completed_frame-only}
use Rattle.frame.proofs.HeldSums.{held-sequences}
use Rattle.field257.proofs.Members.{Below}
use Rattle.frame.proofs.ReadFrames.{length-read}
use Rattle.frame.proofs.Shapes.{shape-ranges}

pub same_read : (s : Shape) (D : Declared) (f g : List ℕ) → held_sums s (as_read s D f) ≡ held_sums s (as_read s D g) → sums_read s D f ≡ sums_read s D g
same_read s D f g e = sym (held-sequences s (as_read s D f)) ∙ ap (held_sequences s) e ∙ held-sequences s (as_read s D g)

module _ (s : Shape) (shape : is_shape s ≡ true) (D : Declared) (f : List ℕ) (read : Read s D f) (M : Columns) (marks : Below s.columns M) where
  pub mended-read : mended s D M f ≡ mended s D M (as_read s D f)
  unfolding mended
  mended-read =
      completed_frame-only s.exponent s.columns s.rows (λ h. either M (D h)) (as_read s D f)
      (length-read s D f read.size) (shape-ranges s shape).columns-most
      (λ h below. either-below M (D h) s.columns (λ i _. marks i) (λ i. read.inside h i below))
      (mended s D M f) (mended-size s shape D f read M marks)
      (cell_below s (mended s D M f) (mended_well_formed s shape D f read M marks))
      (mended-kept s shape D f read M marks) (mended-zeros s shape D f read M marks)
