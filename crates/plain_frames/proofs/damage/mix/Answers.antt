use native.Mathlib.Omega.{arith}
use borrow.Author.Rules.{rules}
use Rattle.plain.proofs.Draws.{drawn-below}
use Rattle.plain_frames.proofs.Mixing.{swapped}
use Rattle.plain_frames.proofs.damage.mix.Goals as goal

pub loop-i-preserved : goal.loop-i-preserved
loop-i-preserved c =
    let n = c.args.n in (
      search rules,
      λ fits d.
          let size = c.loop-i.invariant.0 in
          let low = drawn-below _ n (omega arith) c.draw-j.ensures.1 in
          swapped _ n _ _ (omega arith) (omega arith) low n (rw (c.from.ensures, c.from-in-loop-i.ensures) at c.swap.ensures) (c.loop-i.invariant.1 fits d),
    )

pub loop-i-init : goal.loop-i-init
loop-i-init c = (search rules, λ fits d. d)

pub returns : goal.returns
returns c = c.loop-i.invariant.1
