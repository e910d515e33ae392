-- `erasures::reading::clear` meets its contract.
use Prim.Native.Nat.{◌-◌}
use Rattle.frame.proofs.Clearing.{Clearing}
use Rattle.erasures.proofs.reading.clear.Given as goal

abbrev pub invariant-loop-i : goal.invariant-loop-i
invariant-loop-i l = Clearing l.set l.initial.row l.i l.row

abbrev pub decreases-loop-i : goal.decreases-loop-i
decreases-loop-i l = 256 - l.i
