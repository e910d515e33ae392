-- `remaining::row::reduce` meets its contract.
use Prim.Native.Nat.{◌%◌}
use lib.ListN.{get_or}
use Rattle.lists.proofs.Filling.{Filled}
use Rattle.remaining.proofs.row.reduce.Given as goal

abbrev pub invariant-loop-j : goal.invariant-loop-j
invariant-loop-j l = Filled (λ i. get_or l.totals i 0 % 257) l.initial.left l.j l.left
