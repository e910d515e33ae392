use Rattle.std.proofs.Common.{ℕ, ◌%◌, ◌^◌, length, sym, refl, ap, ◌∙◌, add-zero, add_assoc, arith}
use lib.ListN.{length-replicate}
use Rattle.brute.proofs.Completing.{sums_begin, sums-more, sums_fail, sums-done}
use Rattle.plain.proofs.Powers.{power-more}
use Rattle.plain.proofs.Tests.{tells-true, tells-false}
use Rattle.brute.proofs.erasures.completable.Goals as goal

pub loop-sum-init : goal.loop-sum-init
loop-sum-init c = (
  c.power-step.ensures ∙ ap (λ (e : ℕ). 3 ^ e % 257) (sym (add-zero _)),
  sums_begin _ _ _ _ _ _ refl c.clear.ensures,
)

pub returns-then-contradicts : goal.returns-then-contradicts
returns-then-contradicts c =
    λ few residues.
    tells-false
    (sums_fail _ _ _ c.loop-sum.sum-index _ _ _ _ _ _ _ c.loop-sum.invariant.1 (omega arith) refl c.loop-sum.invariant.0 c.pose_sum.ensures _
    refl c.add.ensures (c.contradicts.ensures.yes c.if-contradicts.true) few residues
    (c.clear.ensures.size ∙ ap length c.table-room.ensures ∙ length-replicate {A = ℕ} 16641 0))

pub loop-sum-preserved : goal.loop-sum-preserved
loop-sum-preserved c = (
  power-more 3 _ c.loop-sum.invariant.0 c.times-step.ensures ∙ ap (λ (e : ℕ). 3 ^ e % 257) (add_assoc _ c.loop-sum.sum-index 1),
  sums-more _ _ _ c.loop-sum.sum-index _ _ _ _ _ _ _ c.loop-sum.invariant.1 (omega arith) refl c.loop-sum.invariant.0 c.pose_sum.ensures _
      refl c.add.ensures (c.contradicts.ensures.no c.if-contradicts.false),
)

pub returns : goal.returns
returns c =
    λ few residues. tells-true (sums-done _ _ _ c.loop-sum.sum-index _ _ c.loop-sum.invariant.1 (omega arith) few residues (c.clear.ensures.size ∙ ap length c.table-room.ensures ∙ length-replicate {A = ℕ} 16641 0))
