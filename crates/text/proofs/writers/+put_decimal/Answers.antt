-- `text::writers::put_decimal` meets its contract: one digit is a byte, and more are those of the tenth and the last byte.
use mathlib.Core.Path.{◌≡◌, refl, ap}
use native.Mathlib.Omega.{arith}
use lib.ListN.{length}
use Rattle.text.specs.Text.{decimal}
use Rattle.text.proofs.Digits.{decimal-small, one-digit, last-room, more-digits}
use Rattle.text.proofs.writers.+put_decimal.Goals as goal

pub put_byte-requires : goal.put_byte-requires
put_byte-requires t c =
    let e : length (decimal c.args.n) ≡ 1 = ap length (decimal-small c.args.n (omega arith)) in
    omega arith

pub returns-then-n-lt10 : goal.returns-then-n-lt10
returns-then-n-lt10 t c = one-digit c.args.n _ c.digit.ensures _ _ _ _ (omega arith) c.put_byte.ensures

pub put_decimal-last-requires : goal.put_decimal-last-requires
put_decimal-last-requires t c =
    let e = last-room c.args.n _ refl (omega arith) (omega arith) in
    (omega arith, omega arith)

pub put_byte-requires-2 : goal.put_byte-requires-2
put_byte-requires-2 t c =
    let e = last-room c.args.n _ refl (omega arith) (omega arith) in
    omega arith

pub returns : goal.returns
returns t c =
    let e = last-room c.args.n _ refl (omega arith) (omega arith) in
    more-digits c.args.n _ c.digit-2.ensures (omega arith) (omega arith) _ _ _ _ _ _ (omega arith) c.put_decimal-last.ensures c.put_byte-2.ensures
