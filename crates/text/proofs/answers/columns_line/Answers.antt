-- `text::answers::columns_line` meets its contract.
use native.Mathlib.Omega.{arith}
use Rattle.text.specs.Line.{columns_line}
use Rattle.text.proofs.Lines.{line-more, line-end}
use Rattle.text.proofs.answers.columns_line.Goals as goal

pub returns : goal.returns
unfolding columns_line
returns c =
    let head = c.put_head-head.ensures in
    let columns = c.put_columns-end.ensures in
    let byte = c.put_byte.ensures in
    record { written = line-end _ _ _ _ _ _ (omega arith) (line-more _ _ _ _ _ _ (omega arith) head.written _ _ _ columns.written) _ _ byte; upper_bound = omega (arith, byte.place) }
