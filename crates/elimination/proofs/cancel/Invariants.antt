-- `elimination::cancel` meets its contract.
use Prim.Native.Nat.{◌≤◌}
use Rattle.elimination.specs.Equations.{Cancelled}
use Rattle.elimination.proofs.cancel.Given as goal

abbrev pub invariant-loop-j : goal.invariant-loop-j
invariant-loop-j l = (l.j ≤ l.n) × Cancelled l.p l.initial.table l.table l.k l.j
