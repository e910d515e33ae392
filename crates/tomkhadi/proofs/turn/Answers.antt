-- `tomkhadi::turn` meets its contract.
use native.Mathlib.Omega.{arith}
use Rattle.tomkhadi.proofs.Turning.{turned, turned_all_the_same}
use Rattle.tomkhadi.proofs.turn.Goals as goal

pub returns-in_err-write_all-clause-err : goal.returns-in_err-write_all-clause-err
returns-in_err-write_all-clause-err c =
    turned_all_the_same _ _ _ c.filled-full.result c.filled-full.ensures _ _ c.put_lines-put.ensures (omega arith) _

pub returns-clause-ok : goal.returns-clause-ok
returns-clause-ok c = turned _ _ _ c.filled-full.result c.filled-full.ensures _ _ c.put_lines-put.ensures (omega arith)
