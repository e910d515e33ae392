-- `field::reciprocal::wide_remainder` meets its contract.
use native.Mathlib.Omega.{arith}
use Rattle.field.proofs.Divisionless.{wide-reciprocal-fits, wide_below, not-above, one-short, right, corrected}
use Rattle.field.proofs.reciprocal.wide_remainder.Goals as goal

pub overflow_mul-t : goal.overflow_mul-t
overflow_mul-t c = record { fits = wide-reciprocal-fits c.args.p c.requires.quotient c.requires.reciprocal }

pub overflow_sub-r : goal.overflow_sub-r
overflow_sub-r c =
    let pre = c.requires in rw c.from.ensures (not-above (omega arith) pre.positive (wide_below pre.modulus pre.quotient) pre.reciprocal)

pub overflow_cast-r : goal.overflow_cast-r
overflow_cast-r c =
    let pre = c.requires in
    rw c.from.ensures (omega (arith, pre.modulus, one-short (omega arith) pre.positive (wide_below pre.modulus pre.quotient) pre.reciprocal))

pub returns-then-r-p : goal.returns-then-r-p
returns-then-r-p c =
    let pre = c.requires in
    let all = corrected (omega arith) pre.positive (wide_below pre.modulus pre.quotient) pre.reciprocal (rw c.from.ensures at c.if-r-p.true) in
    rw c.from.ensures (record { equals = all.0; below = all.1 })

pub returns : goal.returns
returns c =
    let pre = c.requires in
    let below = rw c.from.ensures at c.if-r-p.false in
    rw c.from.ensures (record { equals = right (omega arith) pre.positive (wide_below pre.modulus pre.quotient) pre.reciprocal below; below = below })
