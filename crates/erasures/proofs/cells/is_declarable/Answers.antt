use mathlib.Core.Path.{◌≡◌, refl, sym, ap, ◌∙◌}
use mathlib.Core.Bool.{true}
use Rattle.columns.specs.declared.Columns.{Columns}
use Rattle.frame.proofs.Shapes.{shape-ranges}
use Rattle.lists.proofs.Testing.{tested-none, tested_out, tested-pass, tested-all}
use Rattle.erasures.specs.Rows.{row_declarable}
use Rattle.erasures.proofs.RowsDeclarable.{all-rows}
use Rattle.erasures.proofs.cells.is_declarable.Goals as goal
use Rattle.erasures.proofs.cells.is_declarable.Invariants.{row}
use Rattle.erasures.proofs.cells.is_declarable.Goals.{After-row_declarable}

-- what the test says of the row
tested : (c : After-row_declarable) →
    let args = c.args in
    row args.s args.declared.now c.loop-h.h ≡ c.row_declarable.result
tested c =
    ap (λ (J : Columns). row_declarable c.args.s J c.loop-h.h) (sym c.cells_of.ensures) ∙ sym c.row_declarable.ensures

pub loop-h-init : goal.loop-h-init
loop-h-init c = tested-none _ _

pub returns-then-not-row_declarable : goal.returns-then-not-row_declarable
returns-then-not-row_declarable c =
    tested_out _ _ c.loop-h.h c.loop-h-test.true (tested (goal.at.returns-then-not-row_declarable c).After-row_declarable ∙ c.if-not-row_declarable.true)
    ∙ all-rows _ _ (shape-ranges _ c.requires).rows-most

pub loop-h-preserved : goal.loop-h-preserved
loop-h-preserved c =
    let at = c.loop-h in
    tested-pass _ _ at.h true at.invariant c.loop-h-test.true true refl (tested (goal.at.loop-h-preserved c).After-row_declarable ∙ c.if-not-row_declarable.false)

pub returns : goal.returns
returns c = tested-all _ _ _ _ c.loop-h.invariant c.loop-h-test.false ∙ all-rows _ _ (shape-ranges _ c.requires).rows-most
