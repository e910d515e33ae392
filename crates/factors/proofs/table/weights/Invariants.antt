-- `factors::table::weights` meets its contract.
use Prim.Native.Nat.{◌*◌}
use Rattle.lists.proofs.Filling.{Filled}
use Rattle.field257.specs.Powers.{power_of3}
use Rattle.factors.specs.Table.{factor_table}
use Rattle.factors.proofs.table.weights.Given as goal

abbrev pub invariant-loop-i : goal.invariant-loop-i
invariant-loop-i l = Filled (λ k. power_of3 (l.b * k)) factor_table l.i l.t
