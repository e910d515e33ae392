-- The marked and declared columns of each row, where a frame can be mended: no more than the row has checks, and so fewer than its columns; and what is known
-- of the frame.
use mathlib.Core.Path.{◌≡◌, sym, ap, ◌∙◌}
use mathlib.Core.Bool.{Bool, false, ◌||◌}
use mathlib.Core.List.{List}
use Prim.Native.Nat.{ℕ, ◌+◌, ◌*◌, ◌≤◌, ◌<◌}
use native.Mathlib.Omega.{arith}
use lib.Dec.{ltb}
use lib.ListN.{length, get_or}
use borrow.Author.Tests.{ltb-true}
use Rattle.columns.specs.Columns.{either, has, members}
use Rattle.columns.specs.declared.Columns.{Columns}
use Rattle.columns.proofs.Joined.{either-neither, size-either}
use Rattle.decoding.proofs.MendedFrame.{Read, read_facts}
use Rattle.decoding.proofs.SoleNearest.{left-reach}
use Rattle.frame.specs.DeclaredCells.{Declared, declared_by, undeclared_below}
use Rattle.frame.specs.Frame.{cell}
use Rattle.frame.specs.Shape.{checks_of}
use Rattle.frame.specs.declared.Shape.{Shape}
use Rattle.frame.proofs.Declarable.{declared-few, good_cells}
use Rattle.frame.proofs.Shapes.{shape-ranges}
use Rattle.lists.proofs.Tabulated.{every-at}
use Rattle.uniform.specs.Mendable.{Mendable, SummedSets}

module _ (s : Shape) (declared : List ℕ) (M : Columns) (f : List ℕ) (asked : Mendable s declared M f) where
  abbrev D : Declared
  D = declared_by declared

  pub read : Read s (declared_by declared) f
  unfolding undeclared_below
  read = read_facts s asked.shape D f record {
    size = asked.whole;
    declared = good_cells s D asked.declarable;
    symbols = λ h i r c out.
        ltb-true _ 257
        (ap (λ (b : Bool). b || ltb (cell s.columns f h i) 257) (sym out) ∙ every-at s.columns _ (every-at s.rows _ asked.small h r) i c);
  }

  few : (h : ℕ) → h < s.rows → length (members (either M (D h))) ≤ checks_of s h
  few h r =
      let left = left-reach s D (length (members M)) asked.reach h r in
      let declared-cells = declared-few s D asked.declarable h r in
      let both = size-either M (D h) in
      omega arith

  pub fewer : length (members (either M (declared_by declared 0))) < s.columns
  fewer =
      let ranges = shape-ranges s asked.shape in
      let first = ranges.rows-least in
      omega (arith, few 0 first, (ranges.checks 0 first).below)

  pub summed_sets : (i : ℕ) → i < s.columns → has (either M (declared_by declared 0)) i ≡ false → SummedSets s declared M (get_or f i 0)
  summed_sets i here out =
      let ranges = shape-ranges s asked.shape in
      record {
        shape = asked.shape;
        few = λ h r. omega (arith, few h r, (ranges.checks h r).most);
        symbol =
            rw (← let q : 0 * s.columns + i ≡ i = omega arith in q)
            (read.symbols 0 i ranges.rows-least here (either-neither M (D 0) i (let q = ranges.columns-most in omega arith) out).1);
      }
