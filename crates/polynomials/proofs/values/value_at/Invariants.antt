-- `polynomials::values::value_at` meets its contract.
use Rattle.field257.proofs.Accumulation.{Accumulated}
use Rattle.polynomials.proofs.values.value_at.Given as goal

abbrev pub invariant-loop-k : goal.invariant-loop-k
invariant-loop-k l = Accumulated l.f l.e l.k l.exponent l.total
