-- A frame that can be filled: as read it is filled row by row, which leaves what filling the frame itself leaves.
use mathlib.Core.Path.{◌≡◌, sym, ap, ◌∙◌}
use mathlib.Core.Bool.{Bool, ◌||◌}
use mathlib.Core.List.{List}
use Prim.Native.Nat.{ℕ, ◌<◌}
use lib.Dec.{ltb}
use lib.ListN.{length, get_or}
use borrow.Author.Tests.{ltb-true}
use Rattle.columns.specs.declared.Columns.{Columns}
use Rattle.decoding.specs.Remaining.{mended}
use Rattle.decoding.proofs.MendedFrame.{Read, read_facts}
use Rattle.decoding.proofs.SameRead.{mended-read}
use Rattle.erasures.specs.Fillable.{Fillable, FillableRows}
use Rattle.frame.specs.DeclaredCells.{Declared, as_read, declared_by, undeclared_below}
use Rattle.frame.specs.Frame.{cell}
use Rattle.frame.specs.declared.Shape.{Shape}
use Rattle.frame.proofs.Declarable.{good_cells}
use Rattle.frame.proofs.ReadFrames.{length-read}
use Rattle.frame.proofs.ReadTests.{symbols-read}
use Rattle.lists.proofs.Tabulated.{every-at}

module _ (s : Shape) (declared : List ℕ) (M : Columns) (sums f : List ℕ) (asked : Fillable s declared M sums f) where
  abbrev D : Declared
  D = declared_by declared

  all-symbols : (k : ℕ) → k < length (as_read s D f) → get_or (as_read s D f) k 0 < 257
  all-symbols k l = ltb-true _ 257 (every-at (length (as_read s D f)) _ (sym (symbols-read s D f asked.whole) ∙ asked.small) k l)

  read_fillable : FillableRows s declared M sums (as_read s D f)
  read_fillable = record {
    shape = asked.shape;
    whole = length-read s D f asked.whole;
    small = all-symbols;
    held = asked.held;
    below = asked.below;
    declarable = asked.declarable;
    reach = asked.reach;
  }

  -- the frame that clearing leaves can be filled
  pub cleared_fillable : (g : List ℕ) → g ≡ as_read s (declared_by declared) f → FillableRows s declared M sums g
  cleared_fillable g e = rw e read_fillable

  read : Read s D f
  unfolding undeclared_below
  read = read_facts s asked.shape D f (record {
    size = asked.whole;
    declared = good_cells s D asked.declarable;
    symbols = λ h i r c out. ltb-true _ 257 (sym (ap (λ (b : Bool). b || ltb (cell s.columns f h i) 257) out)
        ∙ every-at s.columns _ (every-at s.rows _ asked.small h r) i c);
  })

  pub filled_is : (g : List ℕ) → g ≡ as_read s (declared_by declared) f → mended s (declared_by declared) M g ≡ mended s (declared_by declared) M f
  filled_is g e = ap (mended s D M) e ∙ sym (mended-read s asked.shape D f read M asked.below)
