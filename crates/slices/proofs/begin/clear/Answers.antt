use mathlib.Core.Path.{◌≡◌, ap, ◌∙◌}
use Prim.Native.Nat.{ℕ}
use native.Mathlib.Omega.{arith}
use borrow.Author.Rules.{rules}
use Rattle.sequences.specs.Backwards.{backwards_over}
use Rattle.slices.proofs.Beginning.{all-cleared, fronts, none-cleared, one-cleared}
use Rattle.slices.proofs.begin.clear.Goals as goal

pub loop-h-init : goal.loop-h-init
loop-h-init c = none-cleared _ c.requires

pub loop-h-preserved : goal.loop-h-preserved
loop-h-preserved c = let at = c.loop-h in one-cleared _ {h = at.h} (search rules) at.invariant (c.fill.ensures.after (search rules))

pub returns : goal.returns
returns c =
    let at = c.loop-h in
    let old = c.args.saved.now in
    at.invariant ∙ ap (λ (h : ℕ). backwards_over (fronts h) old) (let e : at.h ≡ 8 = omega arith in e) ∙ all-cleared old
