-- `plain::values::remainder` meets its contract: what is left modulo p is below p, and so fits 16 bits.
use Rattle.std.proofs.Common.{◌<◌, sym, mod-lt, arith}
use Rattle.plain.proofs.Remainders.{rem-zero, rem-positive}
use Rattle.plain.proofs.values.remainder.Goals as goal

pub returns-then-p-eq0 : goal.returns-then-p-eq0
returns-then-p-eq0 c = rw c.if-p-eq0.true (sym (rem-zero _))

pub overflow_cast-result : goal.overflow_cast-result
overflow_cast-result c =
    let args = c.args in
    let positive : 0 < args.p = omega arith in
    rw c.from.ensures (omega (arith, mod-lt args.x positive))

pub returns : goal.returns
returns c = rw c.from.ensures (rem-positive _ _ (omega (arith, c.if-p-eq0.false)))
