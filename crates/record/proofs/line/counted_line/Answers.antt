-- `record::line::counted_line` meets its contract.
use mathlib.Core.Path.{ap}
use native.Mathlib.Omega.{arith}
use Rattle.record.specs.Line.{output_of}
use Rattle.record.proofs.Parsing.{bad-line, counted-short, counted-said}
use Rattle.text.proofs.Writing.{written_as}
use Rattle.record.proofs.line.counted_line.Goals as goal

pub returns-then-xs-end-clause-written : goal.returns-then-xs-end-clause-written
returns-then-xs-end-clause-written c = written_as _ _ _ _ _ _ (bad-line _ (counted-short c.args.xs.now _ _ (omega arith))) c.refusal_line.ensures.written

pub returns-clause-written : goal.returns-clause-written
returns-clause-written c = written_as _ _ _ _ _ _ (ap output_of (counted-said c.args.xs.now _ _ (omega arith))) (rw c.from-end.ensures at c.parts_line.ensures.written)
