use Rattle.std.proofs.Common.{sym}
use Rattle.lists.proofs.Tabulated.{every-zero}
use Rattle.lists.proofs.Every.{every-next}
use Rattle.shapes.proofs.symbols.all_below.Goals as goal

pub loop-cell-init : goal.loop-cell-init
loop-cell-init c = sym (every-zero _)

pub loop-cell-preserved : goal.loop-cell-preserved
loop-cell-preserved c = every-next _ _ _ c.loop-cell.invariant
