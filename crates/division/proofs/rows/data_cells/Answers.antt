use mathlib.Core.Path.{◌∙◌}
use native.Mathlib.Omega.{arith}
use Rattle.lists.proofs.DataCells.{data_cell_lem, data_none, data_all}
use Rattle.lists.proofs.Filling.{filled_more}
use Rattle.division.proofs.rows.data_cells.Goals as goal

pub loop-i-init : goal.loop-i-init
loop-i-init c = data_none c.args.row.now _ (omega arith)

pub loop-i-preserved : goal.loop-i-preserved
loop-i-preserved c =
    let at = c.loop-i in
    filled_more _ _ at.i c.from.result at.cells at.invariant (let s = at.invariant.size in omega arith)
    (c.from.ensures ∙ data_cell_lem c.args.row.now _ at.i (omega arith))

pub returns : goal.returns
returns c = data_all c.args.row.now _ _ _ c.loop-i.invariant (omega arith) c.loop-i-test.false
