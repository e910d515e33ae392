use Rattle.std.proofs.Common.{refl, arith}
use Rattle.brute.proofs.Erased.{none_out, one_out, all_out}
use Rattle.brute.proofs.erasures.take_out_all.Goals as goal

pub loop-k-init : goal.loop-k-init
loop-k-init c = none_out _ _ _

pub loop-k-preserved : goal.loop-k-preserved
loop-k-preserved c = one_out _ _ _ c.loop-k.k _ _ c.loop-k.invariant _ _ (c.saturating_sub.ensures) refl c.take_out.ensures

pub returns : goal.returns
returns c = λ fits. all_out _ _ _ c.loop-k.k _ c.loop-k.invariant (omega arith) fits
