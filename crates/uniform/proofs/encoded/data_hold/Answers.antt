use mathlib.Core.Path.{◌≡◌, refl, ◌∙◌}
use mathlib.Core.Bool.{true}
use Rattle.frame.proofs.FrameTests.{row_test, row-tested}
use Rattle.frame.proofs.RowPlace.{row-place}
use Rattle.lists.proofs.Testing.{tested-none, tested_out, tested-pass, tested-all}
use Rattle.uniform.proofs.encoded.data_hold.Goals as goal
use Rattle.uniform.proofs.encoded.data_hold.Invariants.{holds}
use Rattle.uniform.proofs.encoded.data_hold.Goals.{After-all_hold}

-- what is told of the row's data cells
tested : (c : After-all_hold) → row_test (holds c.args.a) c.args.s c.args.frame.now c.loop-h.h ≡ c.all_hold.result
tested c =
    row-tested (holds _) _ _ _ _ _ (row-place _ _ c.loop-h.h c.requires.0 c.requires.1 c.loop-h-test.true) refl
    (rw c.data_cells.ensures at c.all_hold.ensures)

pub loop-h-init : goal.loop-h-init
loop-h-init c = tested-none _ _

pub returns-then-not-all_hold : goal.returns-then-not-all_hold
returns-then-not-all_hold c =
    tested_out _ _ c.loop-h.h c.loop-h-test.true (tested (goal.at.returns-then-not-all_hold c).After-all_hold ∙ c.if-not-all_hold.true)

pub loop-h-preserved : goal.loop-h-preserved
loop-h-preserved c =
    tested-pass _ _ c.loop-h.h true c.loop-h.invariant c.loop-h-test.true true refl
    (tested (goal.at.loop-h-preserved c).After-all_hold ∙ c.if-not-all_hold.false)
