-- `text::writers::put_number` meets its contract.
use native.Mathlib.Omega.{arith}
use Rattle.text.proofs.Digits.{decimal-length, space_then}
use Rattle.text.proofs.writers.put_number.Goals as goal

pub put_decimal-requires : goal.put_decimal-requires
put_decimal-requires c =
    let p = c.put_byte-start.ensures.place in
    let d = decimal-length c.args.n (omega arith) in
    omega arith

pub returns : goal.returns
returns c =
    let byte = c.put_byte-start.ensures in
    let digits = c.put_decimal.ensures in
    let few = decimal-length c.args.n (omega arith) in
    record { written = space_then _ _ _ _ _ _ _ (omega (arith, byte.place)) byte digits; upper_bound = omega (arith, byte.place, digits.place) }
