use mathlib.Core.Path.{◌≡◌, ap, ◌∙◌}
use Prim.Native.Nat.{◌+◌, ◌≤◌}
use native.Mathlib.Omega.{arith}
use lib.ListN.{length}
use Rattle.columns.specs.Columns.{either}
use Rattle.frame.specs.DeclaredCells.{declared_by}
use Rattle.frame.proofs.RowPlace.{RowPlace}
use Rattle.erasures.proofs.RowsFilled.{filled_none, filled_more, filled-all, place_of, sums-end, sums-long, row_mendable}
use Rattle.erasures.proofs.fill.fill_rows.Goals as goal
use Rattle.erasures.proofs.fill.fill_rows.Goals.{After-either, After-from, In-loop-h}

place : (c : In-loop-h) →
    let args = c.args in
    RowPlace args.s (length args.frame.now) c.loop-h.h
place c = place_of _ _ _ _ _ c.requires _ _ _ c.loop-h.invariant c.loop-h-test.true

-- the sums of the row end within those that are lent
ends : (c : After-from) → c.loop-h.at + c.from.result ≤ length c.args.sums.now
ends c =
    let room = sums-end _ _ _ _ _ c.requires _ _ _ c.loop-h.invariant c.loop-h-test.true in
    let long = sums-long _ _ _ _ _ c.requires _ _ _ c.loop-h.invariant c.loop-h-test.true in
    let count = c.from.ensures in
    omega arith

-- the set at which the row is completed
set_is : (c : After-either) →
    let args = c.args in
    c.either.result ≡ either args.marked (declared_by args.declared.now c.loop-h.h)
set_is c =
    c.either.ensures ∙ ap (either c.args.marked) c.cells_of.ensures

pub loop-h-init : goal.loop-h-init
loop-h-init c = filled_none _ _ _ _ _

pub offset_bounds-s-h : goal.offset_bounds-s-h
offset_bounds-s-h c = let p = place c in omega arith

pub bounds-s-h : goal.bounds-s-h
bounds-s-h c = let p = place c in omega arith

pub overflow_add-to : goal.overflow_add-to
overflow_add-to c = omega (arith, ends c)

pub cells_of-requires : goal.cells_of-requires
cells_of-requires c = let p = place (goal.at.cells_of-requires c).In-loop-h in omega arith

pub offset_bounds-sums-at : goal.offset_bounds-sums-at
offset_bounds-sums-at c = omega (arith, ends (goal.at.offset_bounds-sums-at c).After-from)

pub slice_bounds-mend_row-end : goal.slice_bounds-mend_row-end
slice_bounds-mend_row-end c = omega (arith, ends (goal.at.slice_bounds-mend_row-end c).After-from)

pub mend_row-requires : goal.mend_row-requires
mend_row-requires c =
    let at = c.loop-h in
    let mendable =
    row_mendable _ _ _ _ _ c.requires at.h at.at at.frame at.invariant c.loop-h-test.true c.from.result
    c.from.ensures c.either.result (set_is (goal.at.mend_row-requires c).After-either)
    in
    (c.powers-powers.ensures, mendable)

pub loop-h-preserved : goal.loop-h-preserved
loop-h-preserved c =
    let at = c.loop-h in
    filled_more _ _ _ _ _ c.requires at.h at.at at.frame at.invariant c.loop-h-test.true c.from.result
    c.from.ensures c.either.result (set_is (goal.at.loop-h-preserved c).After-either) _ c.mend_row.ensures

pub returns : goal.returns
returns c = filled-all _ _ _ _ _ _ _ _ c.loop-h.invariant c.loop-h-test.false
