use Rattle.std.proofs.Common.{◌≡◌, ℕ, ◌+◌, get_or, sym, ap, ◌∙◌, arith}
use Rattle.plain.proofs.Choices.{capped-min}
use Rattle.plain.proofs.Sums.{sum-zero, sum-capped-more}
use Rattle.plain.specs.Plain.{capped, sum}
use Rattle.plain.proofs.sequences.start.Goals as goal

pub loop-i-init : goal.loop-i-init
loop-i-init c = (omega arith, sym (ap capped (sum-zero _)))

pub loop-i-preserved : goal.loop-i-preserved
loop-i-preserved c = (
  omega arith,
  sum-capped-more
      _
      _
      c.loop-i.invariant.1
      (c.saturating_add-at.ensures ∙ capped-min _ ∙ ap (λ (x : ℕ). capped (c.loop-i.at + x)) (c.from.ensures ∙ c.get.ensures)),
)

pub returns : goal.returns
returns c =
    let last : c.loop-i.i ≡ c.args.h = let le = c.loop-i.invariant.0 in omega arith in
    c.loop-i.invariant.1 ∙ ap (λ (k : ℕ). capped (sum k (λ i. get_or c.args.lengths.now i 0))) last
