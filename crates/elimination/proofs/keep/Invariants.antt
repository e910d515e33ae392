-- `elimination::keep` meets its contract.
use Prim.Native.Nat.{◌≤◌}
use Rattle.elimination.specs.Equations.{Stored}
use Rattle.elimination.proofs.keep.Given as goal

abbrev pub invariant-loop-j : goal.invariant-loop-j
invariant-loop-j l = (l.j ≤ l.n) × Stored l.initial.table l.table l.k l.j
