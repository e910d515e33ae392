use mathlib.Core.Path.{◌≡◌, refl, ◌∙◌}
use mathlib.Core.Bool.{true}
use native.Mathlib.Omega.{arith}
use Rattle.frame.specs.Encode.{data_below}
use Rattle.frame.proofs.FrameTests.{row_test, row-tested}
use Rattle.frame.proofs.RowPlace.{row-place}
use Rattle.lists.proofs.Testing.{tested-none, tested_out, tested-pass, tested-all}
use Rattle.shapes.proofs.symbols.data_below.Invariants.{symbol}
use Rattle.shapes.proofs.symbols.data_below.Goals as goal
use Rattle.shapes.proofs.symbols.data_below.Goals.{After-all_below}

-- what the test of the data cells says of the row
tested : (c : After-all_below) → row_test symbol c.args.s c.args.frame.now c.loop-h.h ≡ c.all_below.result
tested c =
    row-tested symbol _ _ _ _ _ (row-place _ _ c.loop-h.h c.requires.0 c.requires.1 c.loop-h-test.true) refl
    (rw c.data_cells.ensures at c.all_below.ensures)

pub loop-h-init : goal.loop-h-init
loop-h-init c = tested-none _ _

pub returns-then-not-all_below : goal.returns-then-not-all_below
unfolding data_below
returns-then-not-all_below c =
    tested_out _ _ c.loop-h.h c.loop-h-test.true (tested (goal.at.returns-then-not-all_below c).After-all_below ∙ c.if-not-all_below.true)

pub loop-h-preserved : goal.loop-h-preserved
loop-h-preserved c =
    tested-pass _ _ c.loop-h.h true c.loop-h.invariant c.loop-h-test.true true refl
    (tested (goal.at.loop-h-preserved c).After-all_below ∙ c.if-not-all_below.false)

pub returns : goal.returns
unfolding data_below
returns c = tested-all _ _ _ _ c.loop-h.invariant (omega arith)
