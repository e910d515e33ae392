-- `elimination::clear` meets its contract.
use mathlib.Core.Logic.{◌⊎◌}
use Prim.Native.Nat.{◌≤◌}
use Rattle.elimination.specs.Equations.{Cleared}
use Rattle.elimination.proofs.clear.Given as goal

abbrev pub invariant-loop-k : goal.invariant-loop-k
invariant-loop-k l = (1 ≤ l.k) × ((l.k ≤ l.n) ⊎ (l.k ≤ 1)) × Cleared l.initial.table l.table l.k
