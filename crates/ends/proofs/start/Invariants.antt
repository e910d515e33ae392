-- `start` sets the places. The invariant: those of the sequences passed are set.
use Prim.Native.Nat.{◌-◌}
use lib.ListN.{get_or}
use Rattle.lists.proofs.Filling.{Filled}
use Rattle.lists.proofs.Zeros.{zeros}
use Rattle.ends.proofs.start.Given as goal

abbrev pub invariant-loop-h : goal.invariant-loop-h
invariant-loop-h l = Filled (λ k. l.longest - get_or l.lengths k 0) (zeros 8) l.h l.places
