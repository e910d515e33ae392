-- `elimination::add` meets its contract.
use mathlib.Core.Path.{◌≡◌}
use Prim.Native.Nat.{◌≤◌}
use lib.ListN.{length}
use Rattle.elimination.proofs.Reducing.{Reduced}
use Rattle.elimination.specs.Equations.{Posed}
use Rattle.elimination.proofs.add.Given as goal

abbrev pub invariant-loop-k : goal.invariant-loop-k
invariant-loop-k l =
    (1 ≤ l.k) × (length l.table ≡ length l.initial.table) × (Posed l.p l.n l.initial.table → Reduced l.p l.n l.initial.table l.k l.table)
