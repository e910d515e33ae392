-- `polynomials::factor::multiply` meets its contract.
use Rattle.field.proofs.Multiplication.{Multiplied}
use Rattle.polynomials.proofs.factor.multiply.Given as goal

abbrev pub invariant-loop-x : goal.invariant-loop-x
invariant-loop-x l = Multiplied 257 l.a l.b l.initial.f l.x-index l.below l.f
