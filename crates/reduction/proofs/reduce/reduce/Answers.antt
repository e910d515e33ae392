-- `reduce` takes d over c, modulo 2 by itself, and else by d times what is told of c.
use mathlib.Core.Path.{sym, ap, ap₂, ◌∙◌}
use Prim.Native.Nat.{ℕ, suc, ◌%◌}
use native.Mathlib.Nat.{mod-lt}
use native.Mathlib.Omega.{arith}
use lib.ListN.{take}
use Rattle.field.specs.Coefficients.{reduced}
use Rattle.field.specs.Residue.{quotient}
use Rattle.field.proofs.Remainders.{mod-mul-mod}
use Rattle.reduction.specs.Reductions.{block}
use Rattle.field.proofs.Reduction.{quotient-unit, quotient-two}
use Rattle.reduction.proofs.LessProducts.{less-reduced}
use Rattle.reduction.proofs.reduce.reduce.Goals as goal

pub returns-then-f-eq2 : goal.returns-then-f-eq2
returns-then-f-eq2 c =
    let args = c.args in
    let two = c.if-f-eq2.true in
    λ over _.
    c.reduce_two.ensures
    ∙ ap₂ (λ (p q : ℕ). reduced p 143 args.taps.now q args.e (take (suc args.m) (block args.h args.saved.now))) (sym two)
    (ap (λ (p : ℕ). args.sum % p) (sym two) ∙ sym (quotient-two args.f.p (args.sum % args.f.p) over two (mod-lt args.sum (omega arith))))

pub returns : goal.returns
returns c =
    let args = c.args in
    let p = args.f.p in
    let worked = c.requires.divided.modulus in
    let padded = c.padded.ensures in
    λ over told.
    less-reduced p args.f.inverse (worked.inverse c.if-f-eq2.false) c.requires.reducible c.take_off.ensures (omega (arith, padded.enough)) (omega (arith, padded.few))
    (omega (arith, padded.few, c.requires.reducible.reach)) (quotient p (args.sum % p) over)
    (c.factor-u.ensures.equals ∙ sym (mod-mul-mod args.sum p args.over) ∙ quotient-unit p (args.sum % p) over told)
