use mathlib.Core.Path.{ap, ◌∙◌, ◌≡◌}
use Prim.Native.Nat.{ℕ, ◌%◌, ◌^◌}
use native.Mathlib.Omega.{arith}
use Rattle.plain.proofs.Powers.{power-none, power-more}
use Rattle.plain_frames.proofs.frames.power.Goals as goal

pub loop-init : goal.loop-init
loop-init c = (omega arith, power-none c.args.x)

pub loop-preserved : goal.loop-preserved
loop-preserved c = (omega arith, power-more _ _ c.loop.invariant.1 c.times-r.ensures)

pub returns : goal.returns
returns c =
    let last : c.loop.counter ≡ c.args.e = let le = c.loop.invariant.0 in omega arith in
    c.loop.invariant.1 ∙ ap (λ (k : ℕ). c.args.x ^ k % 257) last
