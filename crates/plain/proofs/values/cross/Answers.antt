-- `plain::values::cross` meets its contract.
use Rattle.std.proofs.Common.{sym, ◌∙◌, arith}
use Rattle.plain.proofs.Remainders.{crossed, rem-zero}
use Rattle.plain.proofs.values.cross.Goals as goal

pub returns-then-p-eq0 : goal.returns-then-p-eq0
returns-then-p-eq0 c = let z = c.if-p-eq0.true in (rw z (rem-zero _ ∙ sym (rem-zero _)), rw z (sym (rem-zero _)))

pub returns : goal.returns
returns c =
    let args = c.args in
    crossed
    args.p
    args.a
    args.b
    args.c
    args.d
    c.product.result
    c.product-2.result
    c.remainder.result
    (omega (arith, c.if-p-eq0.false))
    c.product.ensures.0
    c.product-2.ensures.0
    c.product-2.ensures.1
    (rw c.from.ensures at c.remainder.ensures)
