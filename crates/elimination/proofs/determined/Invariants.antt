-- `elimination::determined` meets its contract.
use mathlib.Core.Path.{◌≡◌}
use Prim.Native.Nat.{◌≤◌}
use lib.ListN.{get_or}
use Rattle.elimination.specs.Equations.{place_of}
use Rattle.plain.specs.Plain.{Each}
use Rattle.elimination.proofs.determined.Given as goal

abbrev pub invariant-loop-k : goal.invariant-loop-k
invariant-loop-k l = (1 ≤ l.k) × Each 1 l.k (λ m. get_or l.table (place_of m m) 0 ≡ 0 → ⊥)
