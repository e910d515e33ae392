-- `plain::values::put` meets its contract.
use Rattle.std.proofs.Common.{sym, arith}
use lib.Seq.{set_out}
use Rattle.plain.proofs.values.put.Goals as goal

pub returns-else-i-a : goal.returns-else-i-a
returns-else-i-a c = let args = c.args in sym (set_out args.a.now args.i args.v (omega arith))
