-- `reader::fields`: the fields passed stand in `out`, and its later entries are as they were.
use Rattle.reader.specs.Fields.{Filled}
use Rattle.reader.proofs.fields.Given as goal

abbrev pub invariant-loop-k : goal.invariant-loop-k
invariant-loop-k l = Filled l.s l.initial.out l.out l.k
