-- `begin` leaves the arrays as they are before the first step.
use native.Mathlib.Omega.{arith}
use borrow.Author.Rules.{rules}
use Rattle.slices.proofs.Beginning.{begins, longest-small, reversible, startable}
use Rattle.slices.proofs.begin.begin.Goals as goal

pub all_backwards-requires : goal.all_backwards-requires
all_backwards-requires c = (reversible c.requires c.longest-most.ensures c.by_length-order.ensures, search rules)

pub overflow_cast-counts : goal.overflow_cast-counts
overflow_cast-counts c = record { fits = omega (arith, longest-small c.requires c.longest-most.ensures c.by_length-order.ensures) }

pub start-requires : goal.start-requires
start-requires c = startable c.requires c.longest-most.ensures c.by_length-order.ensures c.lengths_of-long.ensures

pub returns : goal.returns
returns c =
    begins c.requires c.longest-most.ensures c.by_length-order.ensures c.lengths_of-long.ensures _
    c.all_backwards.ensures c.start.ensures c.clear.ensures
