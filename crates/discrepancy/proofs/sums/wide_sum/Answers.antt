use mathlib.Core.Path.{ap, ◌∙◌}
use Prim.Native.Nat.{ℕ, ◌%◌}
use native.Mathlib.Omega.{arith}
use Rattle.field.proofs.ProductSums.{sum-quotient}
use Rattle.lists.proofs.Halves.{halved_none, halved-more}
use Rattle.discrepancy.proofs.Products.{top_small, whole, whole_below}
use Rattle.discrepancy.proofs.sums.wide_sum.Goals as goal

pub loop-i-init : goal.loop-i-init
loop-i-init c = halved_none _ _

pub loop-i-preserved : goal.loop-i-preserved
loop-i-preserved c =
    let high = c.from-high.ensures ∙ c.top.ensures in
    halved-more _ _ c.loop-i.i c.loop-i.low c.loop-i.high c.loop-i.invariant (omega arith) (c.from-low.ensures ∙ c.bottom.ensures) high
    (rw high (top_small c.requires c.loop-i.i (omega (arith, c.padded-i-end.ensures.few))))

pub wide_remainder-requires : goal.wide_remainder-requires
wide_remainder-requires c =
    let pre = c.requires in
    let taken = pre.modulus.taken in
    rw (c.from.ensures, c.from-2.ensures) record {
      positive = omega (arith, taken.two_or_more);
      modulus = taken.modulus;
      quotient = sum-quotient _ taken.modulus
          (whole_below pre (omega (arith, c.padded-i-end.ensures.enough)) (omega (arith, c.padded-i-end.ensures.few)) c.loop-i.invariant (omega arith));
      reciprocal = pre.modulus.wide;
    }

pub returns : goal.returns
returns c =
    c.wide_remainder.ensures.equals ∙ ap (λ (x : ℕ). x % c.args.f.p)
    (rw (c.from.ensures, c.from-2.ensures)
    (whole c.requires (omega (arith, c.padded-i-end.ensures.enough)) (omega (arith, c.padded-i-end.ensures.few)) c.loop-i.invariant c.loop-i-test.false))
