use mathlib.Core.Path.{◌≡◌, refl, ap, ◌∙◌}
use mathlib.Core.Bool.{true}
use native.Mathlib.Omega.{arith}
use lib.ListN.{length}
use Rattle.columns.specs.Columns.{either}
use Rattle.frame.proofs.RowPlace.{RowPlace, row-place}
use Rattle.lists.proofs.Testing.{tested-none, tested_out, tested-pass, tested-all}
use Rattle.frame.proofs.KeptRows.{row-held}
use Rattle.uniform.proofs.mended.rows_hold.Goals as goal
use Rattle.uniform.proofs.mended.rows_hold.Invariants.{row_holds}
use Rattle.uniform.proofs.mended.rows_hold.Goals.{After-kept_hold, In-loop-h}

place : (c : In-loop-h) →
    let args = c.args in
    RowPlace args.s (length args.frame.now) c.loop-h.h
place c =
    row-place c.args.s (length c.args.frame.now) c.loop-h.h c.requires.shape c.requires.whole c.loop-h-test.true

-- what is told of the row
tested : (c : After-kept_hold) →
    let args = c.args in
    row_holds args.s.columns args.declared.now args.marked args.frame.now args.a c.loop-h.h ≡ c.kept_hold.result
tested c =
    let marked = c.args.marked in
    row-held _ _ _
    (row-place c.args.s (length c.args.frame.now) c.loop-h.h c.requires.shape c.requires.whole c.loop-h-test.true) _ _ (c.either-set.ensures ∙ ap (either marked) c.cells_of.ensures) _ _ c.kept_hold.ensures

pub loop-h-init : goal.loop-h-init
loop-h-init c = tested-none _ _

pub cells_of-requires : goal.cells_of-requires
cells_of-requires c = let p = place (goal.at.cells_of-requires c).In-loop-h in omega arith

pub returns-then-not-kept_hold : goal.returns-then-not-kept_hold
returns-then-not-kept_hold c =
    tested_out _ _ c.loop-h.h c.loop-h-test.true (tested (goal.at.returns-then-not-kept_hold c).After-kept_hold ∙ c.if-not-kept_hold.true)

pub loop-h-preserved : goal.loop-h-preserved
loop-h-preserved c =
    let at = c.loop-h in
    tested-pass _ _ at.h true at.invariant c.loop-h-test.true true refl (tested (goal.at.loop-h-preserved c).After-kept_hold ∙ c.if-not-kept_hold.false)
