-- `factor` multiplies and reduces: the product fits, and so few times p that it can be reduced.
use mathlib.Core.Path.{sym, ◌∙◌}
use Prim.Native.Nat.{◌*◌, ◌≤◌, ◌<◌}
use native.Mathlib.Decide.{dec_le}
use native.Mathlib.Omega.{arith}
use borrow.Author.Tests.{leb-true, leb-false}
use Rattle.field.proofs.Fits.{product-fits, product-below}
use Rattle.field.proofs.ProductSums.{scaled-quotient, scaled_fits}
use Rattle.reduction.proofs.reduce.factor.Goals as goal

pub overflow_mul-v : goal.overflow_mul-v
overflow_mul-v c =
    record { fits = rw c.from.ensures (pick (dec_le c.args.f.p 257)) }
  where
    pick : Dec (c.args.f.p ≤ 257) → c.args.sum * c.args.over < 4294967296
    pick (yes small) = scaled_fits c.args.f.p c.args.sum c.args.over small (c.requires.1.small small) c.requires.2
    pick (no large) =
        product-fits c.args.sum c.args.over c.args.f.p c.requires.0.taken.modulus (c.requires.1.large (omega arith)) c.requires.2

pub wide_remainder-requires : goal.wide_remainder-requires
wide_remainder-requires c =
    let pre = c.requires in
    let taken = pre.0.taken in
    let small : c.args.f.p ≤ 257 = leb-true _ _ (sym c.is_small.ensures ∙ c.if-is_small.true) in
    rw (c.from-then-is_small.ensures, c.from.ensures) record {
      positive = omega (arith, taken.two_or_more);
      modulus = taken.modulus;
      quotient = scaled-quotient c.args.f.p c.args.sum c.args.over small (pre.1.small small) pre.2;
      reciprocal = pre.0.wide;
    }

pub remainder-requires : goal.remainder-requires
remainder-requires c =
    let pre = c.requires in
    let taken = pre.0.taken in
    rw c.from.ensures record {
      positive = omega (arith, taken.two_or_more);
      modulus = taken.modulus;
      product = product-below c.args.sum c.args.over c.args.f.p
          (pre.1.large (leb-false _ _ (sym c.is_small.ensures ∙ c.if-is_small.false))) pre.2;
      reciprocal = pre.0.reciprocal;
    }
