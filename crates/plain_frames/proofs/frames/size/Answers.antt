use Rattle.std.proofs.Common.{◌≡◌, ℕ, ◌+◌, length, get_or, sym, ap, ◌∙◌, arith}
use Rattle.plain.proofs.Choices.{capped-min}
use Rattle.plain.proofs.Sums.{sum-zero, sum-capped-more}
use Rattle.plain.specs.Plain.{capped, sum}
use Rattle.plain_frames.proofs.frames.size.Goals as goal

pub loop-x-init : goal.loop-x-init
loop-x-init c = sym (ap capped (sum-zero _))

pub loop-x-preserved : goal.loop-x-preserved
loop-x-preserved c =
    sum-capped-more _ _ c.loop-x.invariant
    (c.saturating_add-n.ensures ∙ capped-min _ ∙ ap (λ (x : ℕ). capped (c.loop-x.n + x)) c.from.ensures)

pub returns : goal.returns
returns c =
    let marks = c.args.marks.now in
    let last : c.loop-x.x-index ≡ length marks = omega arith in
    c.loop-x.invariant ∙ ap (λ (k : ℕ). capped (sum k (λ i. get_or marks i 0))) last
