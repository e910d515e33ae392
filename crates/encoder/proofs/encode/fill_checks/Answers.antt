use mathlib.Core.Path.{ap}
use native.Mathlib.Omega.{arith}
use lib.ListN.{length}
use Rattle.frame.proofs.RowPlace.{RowPlace, row-place}
use Rattle.frame.specs.Encode.{encoded}
use Rattle.frame.proofs.Encoding.{first_columns}
use Rattle.frame.proofs.Shapes.{shape-ranges}
use Rattle.frame.proofs.RowData.{row_small}
use Rattle.frame.proofs.RowsChanged.{changed-none, changed-all, length_part}
use Rattle.frame.specs.Completion.{completed}
use Rattle.frame.proofs.CompletionLaws.{length-completed}
use Rattle.frame.proofs.RowsAtSets.{more-at_sets}
use Rattle.encoder.proofs.encode.fill_checks.Goals as goal
use Rattle.encoder.proofs.encode.fill_checks.Goals.{In-loop-h}

place : (c : In-loop-h) →
    let args = c.args in
    RowPlace args.s (length args.frame.now) c.loop-h.h
place c =
    row-place c.args.s (length c.args.frame.now) c.loop-h.h c.requires.shape c.requires.whole c.loop-h-test.true

pub generator-held-requires : goal.generator-held-requires
generator-held-requires c =
    let r = shape-ranges c.args.s c.requires.shape in
    omega (arith, c.from-count.ensures, (r.checks 0 r.rows-least).most)

pub loop-h-init : goal.loop-h-init
loop-h-init c = (changed-none _ _ _ _, c.generator-held.ensures)

pub offset_bounds-s-h : goal.offset_bounds-s-h
offset_bounds-s-h c = let p = place (goal.at.offset_bounds-s-h c).In-loop-h in omega arith

pub bounds-s-h : goal.bounds-s-h
bounds-s-h c = let p = place (goal.at.bounds-s-h c).In-loop-h in omega arith

pub generator_for-held-requires : goal.generator_for-held-requires
generator_for-held-requires c =
    let p = place (goal.at.generator_for-held-requires c).In-loop-h in
    (c.loop-h.invariant.1, omega (arith, c.from-checks.ensures))

pub encode_row-requires : goal.encode_row-requires
encode_row-requires c =
    let p = place (goal.at.encode_row-requires c).In-loop-h in
    let size = length_part _ _ _ _ _ _ c.loop-h.invariant.0 p.inside in
    let count = c.from-checks.ensures in
    record {
      divisor = c.generator_for-held.ensures.divisor;
      reach = omega (arith, size, count);
      narrow = omega (arith, size);
      small = λ i le l. row_small c.args.s _ c.requires.small _ c.loop-h-test.true _ _ c.loop-h.invariant.0 p.inside i
          (omega (arith, count)) (omega (arith, size));
    }

pub loop-h-preserved : goal.loop-h-preserved
loop-h-preserved c = (
  more-at_sets (completed _) (length-completed _) _ _ _ _ _ _ c.loop-h.invariant.0 (place (goal.at.loop-h-preserved c).In-loop-h).inside _ _ c.loop-h-test.true
      (ap first_columns c.from-checks.ensures) (c.encode_row.ensures _ c.generator_for-held.ensures),
  c.generator_for-held.ensures,
)

pub returns : goal.returns
unfolding encoded
returns c = changed-all _ _ _ _ _ _ c.loop-h.invariant.0 c.loop-h-test.false
