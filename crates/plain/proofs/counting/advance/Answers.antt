use Rattle.std.proofs.Common.{◌≡◌, ℕ, ◌+◌, ap, ◌∙◌, arith}
use Rattle.plain.proofs.Digits.{carried_none, carried-more, carried-all, counted}
use Rattle.plain.specs.Plain.{rem}
use Rattle.plain.proofs.counting.advance.Goals as goal

pub loop-i-init : goal.loop-i-init
loop-i-init c = (omega arith, λ le. le, carried_none _ _ _)

pub returns-then-v-ne0 : goal.returns-then-v-ne0
returns-then-v-ne0 c =
    let risen = c.plus_product-v.ensures ∙ ap (λ (x : ℕ). rem (x + 1) c.args.p) c.get.ensures in
    record {
      by_index = λ e. (c.loop-i.i, counted _ _ _ _ _ _ _ c.loop-i.invariant.2 c.loop-i.invariant.0 c.put.ensures risen _ (omega arith) c.if-v-ne0.true);
      carried = λ le e. absurd (let z : ◌≡◌ {A = ℕ} 0 1 = cc in omega arith);
    }

pub loop-i-preserved : goal.loop-i-preserved
loop-i-preserved c =
    let risen = c.plus_product-v.ensures ∙ ap (λ (x : ℕ). rem (x + 1) c.args.p) c.get.ensures in (
      omega arith,
      λ le. omega arith,
      carried-more _ _ _ _ _ _ _ c.loop-i.invariant.2 c.loop-i.invariant.0 c.put.ensures risen c.if-v-ne0.false,
    )

pub returns : goal.returns
returns c =
    record {
      by_index = λ e. absurd (let z : ◌≡◌ {A = ℕ} 0 1 = cc in omega arith);
      carried = λ le e. carried-all _ _ _ _ _ _ c.loop-i.invariant.2 (c.loop-i.invariant.1 le) (omega arith);
    }
