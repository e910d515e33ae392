use Prim.Native.Nat.{ℕ, ◌+◌, ◌-◌, ◌*◌}
use native.Mathlib.Omega.{arith}
use borrow.Rule.Slice.PartMut.{mid_len}
use Rattle.completion.proofs.ColumnMending.{row_within, mended-none, mended-more, mended-all}
use Rattle.frame.proofs.HeldParts.{part-below}
use Rattle.completion.proofs.mend.mend_column.Goals as goal

pub loop-h-init : goal.loop-h-init
loop-h-init c = mended-none _ _ _ _ _

pub mend_cell-requires : goal.mend_cell-requires
mend_cell-requires c =
    let at = c.loop-h in
    let n = c.args.s.columns in
    let i = c.requires.inside in
    let enough = c.requires.reach at.h c.loop-h-test.true in
    let room = c.requires.lent.sums-room at.h c.loop-h-test.true in
    let most = c.requires.lent.checks-most at.h c.loop-h-test.true in
    let begins = at.invariant.place in
    let count = c.from.ensures in
    let whole = at.invariant.rows.size in
    let inside = row_within _ _ _ _ c.requires.lent c.loop-h-test.true in
    let row = mid_len (at.h * n) (at.h * n + n) at.frame (omega arith) in
    let end : ℕ = at.at + c.from.result in
    let sums = mid_len at.at end c.args.sums.now (omega arith) in
    record {
      inside = omega arith;
      few = omega arith;
      reach = omega arith;
      sums-small = part-below c.args.sums.now c.requires.lent.sums-small at.at (end - at.at);
    }

pub loop-h-preserved : goal.loop-h-preserved
loop-h-preserved c =
    let at = c.loop-h in
    let inside = row_within _ _ _ _ c.requires.lent c.loop-h-test.true in
    mended-more _ _ _ _ _ at.h at.at at.frame at.invariant inside c.from.result _ c.loop-h-test.true c.from.ensures c.mend_cell.ensures

pub returns : goal.returns
returns c = mended-all _ _ _ _ _ _ _ _ c.loop-h.invariant c.loop-h-test.false
