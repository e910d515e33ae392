-- `division::rows::add_multiple` meets its contract.
use Prim.Native.Nat.{◌+◌, ◌*◌}
use lib.ListN.{get_or}
use Rattle.lists.proofs.Filling.{Filled}
use Rattle.division.proofs.rows.add_multiple.Given as goal

abbrev pub invariant-loop-a : goal.invariant-loop-a
invariant-loop-a l = Filled (λ k. get_or l.initial.cells k 0 + get_or l.x k 0 * l.w) l.initial.cells l.a l.cells
