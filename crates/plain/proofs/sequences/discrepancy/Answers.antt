use Rattle.std.proofs.Common.{◌≡◌, ℕ, ◌+◌, ◌*◌, sym, ap, ◌∙◌, ap₂, arith}
use Rattle.plain.proofs.Remainders.{rem-none}
use Rattle.plain.proofs.Sums.{sum-zero, sum-rem-more}
use Rattle.plain.specs.Plain.{discrepancy, rem}
use Rattle.plain.proofs.sequences.discrepancy.Goals as goal

pub loop-i-init : goal.loop-i-init
loop-i-init c = (omega arith, sym (ap (λ (x : ℕ). rem x c.args.p) (sum-zero _) ∙ rem-none _))

pub loop-i-preserved : goal.loop-i-preserved
loop-i-preserved c =
    let args = c.args in (
      omega arith,
      sum-rem-more args.p _ _ c.loop-i.invariant.1 (c.plus_product-d.ensures
          ∙ ap₂ (λ (x y : ℕ). rem (c.loop-i.d + x * y) args.p) c.get.ensures c.before-in-loop-i.ensures),
    )

pub returns : goal.returns
returns c =
    let args = c.args in
    let last : c.loop-i.i ≡ args.n = let le = c.loop-i.invariant.0 in omega arith in
    c.loop-i.invariant.1 ∙ ap (λ (k : ℕ). discrepancy args.p args.s.now args.taps.now k args.j) last
