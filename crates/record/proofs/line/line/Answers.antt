-- `record::line::line` meets its contract.
use Rattle.record.proofs.Parsing.{broken-line, broken-left, whole-line, whole-left}
use Rattle.text.proofs.Writing.{written_as}
use Rattle.record.proofs.line.line.Goals as goal

pub returns-then-not-whole-clause-written : goal.returns-then-not-whole-clause-written
returns-then-not-whole-clause-written c =
    written_as _ _ _ _ _ _ (broken-line c.args.bytes.now _ c.whole.ensures.value c.if-not-whole.true) c.refusal_line.ensures.written

pub returns-then-not-whole-clause-scratch_after : goal.returns-then-not-whole-clause-scratch_after
returns-then-not-whole-clause-scratch_after c = broken-left c.args.bytes.now _ c.whole.ensures.value c.if-not-whole.true _

pub returns-clause-written : goal.returns-clause-written
returns-clause-written c =
    let good = c.if-not-whole.false in
    let whole = c.whole.ensures in
    let fields = c.fields-n.ensures in
    written_as _ _ _ _ _ _ (whole-line c.args.bytes.now _ whole.value good (whole.in_bounds good).1 _ _ _ c.requires.0 fields.value fields.filled) c.body_line.ensures.written

pub returns-clause-scratch_after : goal.returns-clause-scratch_after
returns-clause-scratch_after c =
    let good = c.if-not-whole.false in
    let whole = c.whole.ensures in
    let fields = c.fields-n.ensures in
    whole-left c.args.bytes.now _ whole.value good (whole.in_bounds good).1 _ _ _ c.requires.0 fields.value fields.filled
