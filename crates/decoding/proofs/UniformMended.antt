-- The mended frame is uniform exactly where the cells outside the marked and declared columns hold one symbol and that symbol in every cell makes as many
-- check sums of each row 0 as it has such columns.
use mathlib.Core.Path.{◌≡◌, ap, ◌∙◌}
use mathlib.Core.Bool.{true, false, ◌&&◌, ◌||◌}
use mathlib.Core.List.{List}
use Prim.Native.Nat.{ℕ, suc, ◌+◌, ◌*◌, ◌<◌}
use native.Mathlib.Omega.{arith}
use lib.Dec.{eqb}
use lib.ListN.{get_or, replicate}
use Rattle.columns.specs.Columns.{has, either}
use Rattle.columns.specs.declared.Columns.{Columns}
use Rattle.columns.proofs.Joined.{either-neither, either-below}
use Rattle.decoding.specs.Remaining.{mended}
use Rattle.decoding.proofs.MendedFrame.{Read}
use Rattle.field257.proofs.Members.{size, Below}
use Rattle.frame.specs.DeclaredCells.{Declared}
use Rattle.frame.specs.Frame.{cell, check_sum, uniform}
use Rattle.frame.specs.Shape.{is_shape}
use Rattle.frame.specs.declared.Shape.{Shape}
use Rattle.frame.proofs.Shapes.{shape-ranges}
use Rattle.frame.proofs.UniformFrames.{uniform-completed}
use Rattle.lists.specs.Tabulate.{every}

module _ (s : Shape) (shape : is_shape s ≡ true) (D : Declared) (f : List ℕ) (read : Read s D f) (M : Columns) (marks : Below s.columns M)
    (i : ℕ) (here : i < s.columns) (out : has (either M (D 0)) i ≡ false) where
  pub uniform-mended : uniform (mended s D M f) ≡ (
      every s.rows (λ h. every s.columns (λ k. has (either M (D h)) k || eqb (cell s.columns f h k) (get_or f i 0)))
      && every s.rows (λ h. every (size (either M (D h))) (λ j.
      eqb (check_sum s.exponent s.columns (replicate s.columns (get_or f i 0)) (suc j)) 0)))
  unfolding mended
  uniform-mended =
      let ranges = shape-ranges s shape in
      uniform-completed s.exponent s.columns s.rows (λ h. either M (D h)) f read.size ranges.columns-most
      (λ h r. either-below M (D h) s.columns (λ k _. marks k) (λ k. read.inside h k r))
      (λ h k r c e. read.symbols h k r c (either-neither M (D h) k (let b = ranges.columns-most in omega arith) e).1)
      i ranges.rows-least here out
      ∙ ap (λ (a : ℕ).
      every s.rows (λ h. every s.columns (λ k. has (either M (D h)) k || eqb (cell s.columns f h k) a))
      && every s.rows (λ h. every (size (either M (D h))) (λ j. eqb (check_sum s.exponent s.columns (replicate s.columns a) (suc j)) 0))) same
    where
      same : cell s.columns f 0 i ≡ get_or f i 0
      same = ap (λ (k : ℕ). get_or f k 0) (let q : 0 * s.columns + i ≡ i = omega arith in q)
