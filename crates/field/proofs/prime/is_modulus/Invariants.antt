-- `field::prime::is_modulus` meets its contract. The invariant: no number from 2 to d − 1 divides p, and d is odd and at most 257.
use mathlib.Core.Path.{◌≡◌}
use Prim.Native.Nat.{◌-◌, ◌%◌, ◌≤◌}
use Rattle.field.proofs.PrimeTest.{Undivided}
use Rattle.field.proofs.prime.is_modulus.Given as goal

abbrev pub invariant-loop-d : goal.invariant-loop-d
invariant-loop-d l = (3 ≤ l.d) × (l.d ≤ 257) × (l.d % 2 ≡ 1) × Undivided l.p l.d

abbrev pub decreases-loop-d : goal.decreases-loop-d
decreases-loop-d l = 257 - l.d
