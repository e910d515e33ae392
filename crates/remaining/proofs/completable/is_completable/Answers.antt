use mathlib.Core.Path.{◌≡◌, refl, ◌∙◌}
use mathlib.Core.Bool.{true}
use native.Mathlib.Omega.{arith}
use Rattle.decoding.specs.Remaining.{meeting_completable}
use Rattle.frame.specs.DeclaredCells.{declared_by}
use Rattle.lists.proofs.Testing.{tested_out, tested-pass, tested-all}
use Rattle.remaining.proofs.RowsCompletable.{row_test, before-none, row-testable, row-tested, before-more}
use Rattle.remaining.proofs.completable.is_completable.Goals as goal
use Rattle.remaining.proofs.completable.is_completable.Goals.{After-row_completable}

pub loop-h-init : goal.loop-h-init
loop-h-init c = before-none _ _ _ _ c.requires

pub row_completable-requires : goal.row_completable-requires
row_completable-requires c =
    row-testable _ _ _ _ c.requires (omega arith) c.loop-h.h c.loop-h.at c.loop-h.invariant.sums-passed c.loop-h-test.true
    c.from.result c.cells_of.result c.from.ensures c.cells_of.ensures _ c.powers-powers.ensures

-- what is answered of the row is its test
tested : (c : After-row_completable) →
    let args = c.args in
    row_test args.s (declared_by args.declared.now) args.marked args.sums.now c.loop-h.h ≡ c.row_completable.result
tested c =
    row-tested _ _ _ _ c.requires (omega arith) c.loop-h.h c.loop-h.at c.loop-h.invariant.sums-passed c.loop-h-test.true
    c.from.result c.cells_of.result c.from.ensures c.cells_of.ensures _ c.row_completable.ensures

pub returns-then-not-row_completable : goal.returns-then-not-row_completable
unfolding meeting_completable
returns-then-not-row_completable c =
    tested_out _ _ c.loop-h.h c.loop-h-test.true (tested (goal.at.returns-then-not-row_completable c).After-row_completable ∙ c.if-not-row_completable.true)

pub loop-h-preserved : goal.loop-h-preserved
loop-h-preserved c =
    let at = c.loop-h in
    let passes = tested (goal.at.loop-h-preserved c).After-row_completable ∙ c.if-not-row_completable.false in
    before-more _ _ _ _ c.requires (omega arith) at.h at.at at.invariant.sums-passed c.loop-h-test.true
    c.from.result c.cells_of.result c.from.ensures c.cells_of.ensures
    (tested-pass _ _ at.h true at.invariant.tested c.loop-h-test.true true refl passes)

pub returns : goal.returns
unfolding meeting_completable
returns c = tested-all _ _ _ _ c.loop-h.invariant.tested c.loop-h-test.false
