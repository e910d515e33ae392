-- `division::generator::generator` meets its contract.
use mathlib.Core.Path.{◌≡◌}
use Prim.Native.Nat.{◌+◌}
use lib.ListN.{length}
use Rattle.field257.specs.Powers.{power_of3}
use Rattle.division.specs.GeneratorPolynomial.{GeneratorPolynomial}
use Rattle.division.proofs.generator.generator.Given as goal

abbrev pub invariant-loop-j : goal.invariant-loop-j
invariant-loop-j l = (length l.f ≡ 65) × (l.root ≡ power_of3 (l.b + l.j)) × GeneratorPolynomial l.b l.j l.f
