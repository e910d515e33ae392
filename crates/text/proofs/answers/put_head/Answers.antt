-- `text::answers::put_head` meets its contract.
use native.Mathlib.Omega.{arith}
use Rattle.text.proofs.Writing.{written_then}
use Rattle.text.proofs.answers.put_head.Goals as goal

pub returns : goal.returns
returns c =
    let byte = c.put_byte-start.ensures in
    let number = c.put_number.ensures in
    record { written = written_then _ _ _ _ _ byte (omega (arith, byte.place)) _ _ _ number.written; upper_bound = omega (arith, byte.place, number.upper_bound) }
