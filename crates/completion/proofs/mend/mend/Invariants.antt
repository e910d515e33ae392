-- `completion::mend::mend` meets its contract.
use mathlib.Core.Path.{◌≡◌}
use Prim.Native.Nat.{ℕ}
use lib.ListN.{length}
use Rattle.completion.proofs.MendedFrame.{FrameMending}
use Rattle.completion.proofs.mend.mend.Given as goal

abbrev pub invariant-loop-i : goal.invariant-loop-i
invariant-loop-i l = (i : ℕ) × (length l.coefficients ≡ 64) × FrameMending l.fn.set l.s l.sums l.initial.frame (length l.yielded) i l.frame
