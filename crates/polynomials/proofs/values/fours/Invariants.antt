-- `polynomials::values::fours` meets its contract. The invariant: the terms of b blocks of two of each half are summed.
use Prim.Native.Nat.{◌+◌, ◌*◌}
use lib.ListN.{get_or}
use Rattle.field257.proofs.Halves.{Beside}
use Rattle.polynomials.proofs.values.fours.Given as goal

abbrev pub invariant-loop-b : goal.invariant-loop-b
invariant-loop-b l =
    Beside (λ k. get_or l.f k 0) (λ k. get_or l.f (l.half + k) 0) l.e (2 * l.b) l.exponent l.total
