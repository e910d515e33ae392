use Rattle.std.proofs.Common.{◌≡◌, ℕ, ◌+◌, ◌*◌, ◌-◌, ◌%◌, ◌^◌, length, get_or, refl, ap, ◌∙◌, arith}
use Rattle.plain.proofs.Powers.{weight-none, weight-more, weighed-none, weighed-more}
use Rattle.plain.specs.Plain as Plain
use Rattle.plain_frames.proofs.frames.check_sum.Goals as goal
use Rattle.plain_frames.proofs.frames.check_sum.Goals.{After-power-step}

-- b + j − 1
abbrev exponent-of : After-power-step → ℕ
exponent-of c = let args = c.args in args.exponent + args.j - 1

pub loop-x-init : goal.loop-x-init
loop-x-init c = (weight-none 3 (exponent-of c), weighed-none _)

pub loop-x-preserved : goal.loop-x-preserved
loop-x-preserved c =
    let step = c.power-step.ensures ∙ ap (λ (e : ℕ). 3 ^ e % 257) (let e : c.saturating_sub.result ≡ c.args.exponent + c.args.j - 1 = omega arith in e) in (
      weight-more 3 (exponent-of (goal.at.loop-x-preserved c).After-power-step) c.loop-x.x-index step c.loop-x.invariant.0 c.times-weight.ensures,
      weighed-more
          (λ k. get_or c.args.row.now k 0)
          (λ k. 3 ^ (exponent-of (goal.at.loop-x-preserved c).After-power-step * k))
          c.loop-x.x-index
          c.loop-x.invariant.1
          refl
          c.loop-x.invariant.0
          c.plus_product-sum.ensures,
    )

pub returns : goal.returns
returns c =
    let row = c.args.row.now in
    let last : c.loop-x.x-index ≡ length row = omega arith in
    c.loop-x.invariant.1 ∙ ap (λ (n : ℕ). Plain.sum n (λ k. get_or row k 0 * 3 ^ (exponent-of (goal.at.returns c).After-power-step * k)) % 257) last
