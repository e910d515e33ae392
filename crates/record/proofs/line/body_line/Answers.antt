-- `record::line::body_line` meets its contract.
use mathlib.Core.Path.{ap}
use native.Mathlib.Omega.{arith}
use borrow.Author.Rules.{rules}
use Rattle.record.specs.Line.{output_of}
use Rattle.record.specs.Record.{body_of}
use Rattle.record.proofs.Parsing.{bad-line, body-short, body-unknown, body-sequences, body-frame}
use Rattle.text.proofs.Writing.{written_as}
use Rattle.record.proofs.line.body_line.Goals as goal

pub returns-then-xs-lt3-clause-written : goal.returns-then-xs-lt3-clause-written
returns-then-xs-lt3-clause-written c =
    let xs = c.args.xs.now in
    written_as _ _ _ _ _ _ (bad-line (body_of xs) (body-short xs (omega arith))) c.refusal_line.ensures.written

pub returns-then-xs-eq1-clause-written : goal.returns-then-xs-eq1-clause-written
returns-then-xs-eq1-clause-written c =
    let xs = c.args.xs.now in
    written_as _ _ _ _ _ _ (ap output_of (body-sequences xs (search rules))) c.counted_line.ensures.written

pub returns-then-xs-eq2-clause-written : goal.returns-then-xs-eq2-clause-written
returns-then-xs-eq2-clause-written c =
    let xs = c.args.xs.now in
    written_as _ _ _ _ _ _ (ap output_of (body-frame xs (search rules))) c.counted_line-then-xs-eq2.ensures.written

pub returns-clause-written : goal.returns-clause-written
returns-clause-written c =
    let xs = c.args.xs.now in
    written_as _ _ _ _ _ _ (bad-line (body_of xs) (body-unknown xs (search rules) (search rules))) c.refusal_line-2.ensures.written
