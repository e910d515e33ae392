-- `division::rows::put_negatives` meets its contract.
use Prim.Native.Nat.{◌-◌, ◌%◌}
use lib.ListN.{get_or}
use Rattle.lists.proofs.Filling.{Filled}
use Rattle.division.proofs.rows.put_negatives.Given as goal

abbrev pub invariant-loop-k : goal.invariant-loop-k
invariant-loop-k l = Filled (λ i. (257 - get_or l.cells i 0 % 257) % 257) l.initial.row l.k l.row
