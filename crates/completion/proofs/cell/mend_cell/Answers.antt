-- `completion::cell::mend_cell` meets its contract.
use Rattle.completion.proofs.RowMending.{cell-written}
use Rattle.completion.proofs.cell.mend_cell.Goals as goal

pub returns : goal.returns
returns c =
    cell-written _ _ _ c.args.row.now c.read_off-symbol.result c.plus.result c.requires.inside c.read_off-symbol.ensures c.plus.ensures
