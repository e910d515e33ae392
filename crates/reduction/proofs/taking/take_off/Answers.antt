use mathlib.Core.Path.{◌≡◌, refl, ◌∙◌}
use Prim.Native.Nat.{◌+◌, ◌<◌}
use native.Mathlib.Nat.{mod-eq_of_lt}
use native.Mathlib.Omega.{arith}
use Rattle.field.proofs.MontgomeryProducts.{companion-is}
use Rattle.field.proofs.Reduction.{factors, taken-by}
use Rattle.reduction.proofs.LessProducts.{less_none, less-more}
use Rattle.reduction.proofs.taking.take_off.Goals as goal

pub loop-i-init : goal.loop-i-init
loop-i-init c = less_none c.requires.cells c.args.u c.args.numbers.now

pub less_product-requires : goal.less_product-requires
less_product-requires c =
    let bottom = c.bottom-v in
    let odd = c.requires.odd in
    let read = odd.lent.each c.loop-i.i (omega (arith, c.requires.cells.within)) in
    let match = companion-is c.args.f.p c.args.f.inverse (odd.modulus.inverse odd.not-two) _ bottom.ensures ∙ mod-eq_of_lt (omega arith) in
    factors read refl odd.factor bottom.result match (c.loop-i.invariant.residues (c.args.e + c.loop-i.i))

pub loop-i-preserved : goal.loop-i-preserved
loop-i-preserved c =
    let args = c.args in
    let odd = c.requires.odd in
    let ensures = c.less_product.ensures in
    let read = odd.lent.each c.loop-i.i (omega (arith, c.requires.cells.within)) in
    let below : c.less_product.result < args.f.p = omega (arith, read, ensures.below) in
    less-more c.requires.cells args.u args.numbers.now c.loop-i.invariant (omega arith) below (taken-by read refl odd.factor _ _ _ ensures.equals)

pub returns : goal.returns
returns c =
    let end : c.loop-i.i ≡ c.args.count = omega arith in
    rw (← end) c.loop-i.invariant
