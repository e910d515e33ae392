-- `uniform::encoded::encodes_uniform` meets its contract.
use mathlib.Core.Path.{refl, sym, ap₂, ◌∙◌}
use mathlib.Core.Bool.{◌&&◌}
use native.Mathlib.Omega.{arith}
use Rattle.frame.proofs.RowPlace.{row-place}
use Rattle.frame.proofs.Shapes.{shape-ranges}
use Rattle.frame.proofs.UniformFrames.{last-small, uniform-encoded}
use Rattle.uniform.proofs.encoded.encodes_uniform.Goals as goal

pub overflow_sub-a : goal.overflow_sub-a
overflow_sub-a c = omega (arith, (shape-ranges _ c.requires.shape).columns-least)

pub offset_bounds-frame-s : goal.offset_bounds-frame-s
offset_bounds-frame-s c = omega (arith, (shape-ranges _ c.requires.shape).columns-most)

-- the first row is in the frame
pub bounds-frame-s : goal.bounds-frame-s
bounds-frame-s c =
    let asked = c.requires in
    let ranges = shape-ranges _ asked.shape in
    omega (arith, (row-place _ _ 0 asked.shape asked.whole ranges.rows-least).inside, ranges.columns-least)

pub data_hold-requires : goal.data_hold-requires
data_hold-requires c = let asked = c.requires in (asked.shape, asked.whole)

pub checks_coded-requires : goal.checks_coded-requires
checks_coded-requires c = let asked = c.requires in (asked.shape, last-small _ asked.shape _ asked.whole asked.small)

pub returns-then-data_hold : goal.returns-then-data_hold
returns-then-data_hold c =
    let asked = c.requires in
    sym (uniform-encoded _ asked.shape _ asked.whole asked.small
    ∙ ap₂ ◌&&◌ (sym c.data_hold.ensures ∙ c.if-data_hold.true) (sym c.checks_coded.ensures))

pub returns-else-data_hold : goal.returns-else-data_hold
returns-else-data_hold c =
    let asked = c.requires in
    c.if-data_hold.false
    ∙ sym (uniform-encoded _ asked.shape _ asked.whole asked.small ∙ ap₂ ◌&&◌ (sym c.data_hold.ensures ∙ c.if-data_hold.false) refl)
