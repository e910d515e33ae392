use Rattle.std.proofs.Common.{◌≡◌, ℕ, ap, ◌∙◌, arith}
use Rattle.plain.proofs.Draws.{later-zero, later_more, drawn-more}
use Rattle.plain.proofs.Writing.{wrote_none, wrote-put, wrote-all}
use Rattle.plain.specs.Drawn.{later}
use Rattle.plain.proofs.random.fill_from.Goals as goal

pub loop-i-init : goal.loop-i-init
loop-i-init c = (omega arith, later-zero _, wrote_none _ 0 _)

pub loop-i-preserved : goal.loop-i-preserved
loop-i-preserved c = (
  omega arith,
  later_more _ _ c.loop-i.invariant.1 c.draw_from.ensures.0,
  wrote-put
      0
      c.loop-i.i
      _
      c.loop-i.invariant.2
      (omega arith)
      c.put.ensures
      (drawn-more _ _ c.args.least c.args.p c.loop-i.invariant.1 c.draw_from.ensures.1),
)

pub returns : goal.returns
returns c =
    let args = c.args in
    let last : c.loop-i.i ≡ args.n = let le = c.loop-i.invariant.0 in omega arith in (
      c.loop-i.invariant.1 ∙ ap (λ (k : ℕ). later k args.state.now) last,
      wrote-all 0 _ _ c.loop-i.invariant.2 c.loop-i.invariant.0 (omega arith),
    )
