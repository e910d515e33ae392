use mathlib.Core.Path.{refl, sym, ◌∙◌}
use mathlib.Core.Bool.{false≢true}
use native.Mathlib.Nat.{le_refl}
use native.Mathlib.Omega.{arith}
use borrow.Author.Tests.{ltb-true}
use Rattle.window.proofs.Filling.{lacking_more, left-falls, kept_same, kept_on}
use Rattle.window.proofs.input.filled.Goals as goal

pub loop-input-init : goal.loop-input-init
loop-input-init c = record {
  within = c.requires;
  kept = kept_same c.args.w c.args.buffer.now;
  no-fewer = le_refl _;
  ended = λ e. (e, refl);
}

pub loop-input-smaller : goal.loop-input-smaller
loop-input-smaller c =
    let at = c.loop-input.invariant in
    let r = c.refilled-r.ensures in
    left-falls _ c.loop-input.r c.refilled-r.result (lacking_more _ _ (sym c.lacking.ensures ∙ c.loop-input-test.true)) (omega (arith, at.within.within))
    (omega (arith, r.inside.within)) (λ t. ltb-true _ _ (sym r.told ∙ t))

pub loop-input-preserved : goal.loop-input-preserved
loop-input-preserved c =
    let at = c.loop-input.invariant in
    let r = c.refilled-r.ensures in
    let more = lacking_more _ _ (sym c.lacking.ensures ∙ c.loop-input-test.true) in
    record {
      within = r.inside;
      kept = kept_on _ _ _ c.args.w c.loop-input.r c.refilled-r.result at.kept at.no-fewer r.kept;
      no-fewer = omega (arith, r.no-fewer);
      ended = λ e. absurd (false≢true (sym (at.ended e).0 ∙ more));
    }

pub returns : goal.returns
returns c =
    let at = c.loop-input.invariant in
    record { inside = at.within; kept = at.kept; whole = sym c.lacking.ensures ∙ c.loop-input-test.false; ended = at.ended }
