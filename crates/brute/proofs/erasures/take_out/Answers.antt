use Rattle.std.proofs.Common.{◌+◌, get_or, ◌∙◌, arith}
use Rattle.plain.proofs.Writing.{wrote_none, wrote-put, wrote-all}
use Rattle.brute.proofs.Erased.{taken_out}
use Rattle.brute.proofs.erasures.take_out.Goals as goal

pub loop-j-init : goal.loop-j-init
loop-j-init c = (omega arith, wrote_none _ 0 _)

pub loop-j-preserved : goal.loop-j-preserved
loop-j-preserved c =
    let kept = c.loop-j.invariant.1.after in (
      omega arith,
      wrote-put 0 c.loop-j.j _ c.loop-j.invariant.1 (omega arith) c.put.ensures
          (taken_out _ (λ k. get_or c.args.sums.now k 0) c.loop-j.j (rw c.from.ensures at c.power.ensures) c.times-weight.ensures
          (c.get.ensures ∙ kept (c.loop-j.j + 1) (omega arith)) (c.get-in-loop-j.ensures ∙ kept c.loop-j.j (omega arith))
          c.plus_product-v.ensures),
    )

pub returns : goal.returns
returns c = wrote-all 0 _ _ c.loop-j.invariant.1 c.loop-j.invariant.0 (omega arith)
