-- `polynomials::locator::locator_polynomial` meets its contract. The invariant: the factors of the members given are multiplied.
use mathlib.Core.Path.{◌≡◌}
use mathlib.Core.List.{◌++◌}
use Prim.Native.Nat.{◌+◌}
use lib.ListN.{length}
use Rattle.columns.specs.Columns.{members}
use Rattle.columns.specs.Rising.{to_come}
use Rattle.field257.proofs.LocatorBuilding.{Building}
use Rattle.polynomials.proofs.locator.locator_polynomial.Given as goal

abbrev pub invariant-loop-i : goal.invariant-loop-i
invariant-loop-i l =
    (goal.iterator-loop-i).can_next l.i-iterator × (goal.iterator-loop-i).is_finite l.i-iterator ×
    (members l.fn.set ≡ l.yielded ++ to_come l.i-iterator) × (l.e ≡ length l.yielded + 1) × Building l.fn.set (length l.yielded) l.f
