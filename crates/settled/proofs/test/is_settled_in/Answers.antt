-- `is_settled_in` answers whether the register is settled in the sequence: its cells are 0 where its discrepancies are.
use native.Mathlib.Omega.{arith}
use Rattle.settled.proofs.Testing.{settled_where}
use Rattle.settled.proofs.test.is_settled_in.Goals as goal

pub returns : goal.returns
returns c =
    let pre = c.requires in
    let f = c.args.problem.f in
    settled_where f.p f.inverse (pre.modulus.inverse pre.not-two) c.args.h _
    c.args.left c.ahead-cells.ensures (omega arith) (omega arith) c.all_zero.ensures
