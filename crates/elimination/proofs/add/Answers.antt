use mathlib.Core.Path.{refl, sym, ◌∙◌}
use native.Mathlib.Omega.{arith}
use Rattle.elimination.proofs.Reducing.{reduced-none, reduced-more}
use Rattle.elimination.proofs.Settling.{leading, following, contradicting}
use Rattle.elimination.proofs.add.Goals as goal

pub loop-k-init : goal.loop-k-init
loop-k-init c = (omega arith, refl, λ posed. reduced-none _ _ _ posed)

pub returns-then-is_new : goal.returns-then-is_new
returns-then-is_new c =
    record {
      size = c.keep.ensures.size ∙ c.loop-k.invariant.1;
      settled = λ posed.
          leading _ _ _ posed _ _ (c.loop-k.invariant.2 posed) c.loop-k.invariant.0 (omega arith) (c.is_new.ensures.yes c.if-is_new.true) _
          c.keep.ensures;
    }

pub loop-k-preserved : goal.loop-k-preserved
loop-k-preserved c = (
  omega arith,
  c.cancel.ensures.size ∙ c.loop-k.invariant.1,
  λ posed.
      reduced-more _ _ _ posed _ _ (c.loop-k.invariant.2 posed) c.loop-k.invariant.0 (omega arith) _ c.cancel.ensures
      (c.is_new.ensures.no c.if-is_new.false),
)

pub returns-then-get-ne0 : goal.returns-then-get-ne0
returns-then-get-ne0 c =
    let inv = c.loop-k.invariant in
    record {
      size = inv.1;
      settled = λ posed. contradicting _ _ _ posed _ _ (inv.2 posed) (omega arith) (λ e. c.if-get-ne0.true (c.get.ensures ∙ e));
    }

pub returns : goal.returns
returns c =
    let inv = c.loop-k.invariant in
    record {
      size = inv.1;
      settled = λ posed. following _ _ _ posed _ _ (inv.2 posed) (omega arith) (sym c.get.ensures ∙ c.if-get-ne0.false);
    }
