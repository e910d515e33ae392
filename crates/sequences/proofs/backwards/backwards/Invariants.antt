-- `backwards` writes the last entry first. The invariant: the entries passed are written.
use Prim.Native.Nat.{suc, ◌-◌}
use lib.ListN.{length, get_or}
use Rattle.lists.proofs.Filling.{Filled}
use Rattle.sequences.proofs.backwards.backwards.Given as goal

abbrev pub invariant-loop-k : goal.invariant-loop-k
invariant-loop-k l = Filled (λ i. get_or l.s (length l.s - suc i) 0) l.initial.to l.k l.to
