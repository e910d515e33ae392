-- `field::reciprocal::remainder` meets its contract.
use Rattle.field.proofs.Reciprocals.{reciprocal-fits, remainder_is}
use Rattle.field.proofs.reciprocal.remainder.Goals as goal

pub overflow_mul-fraction : goal.overflow_mul-fraction
overflow_mul-fraction c = record { fits = rw c.from.ensures (reciprocal-fits c.requires) }

pub returns-clause-equals : goal.returns-clause-equals
returns-clause-equals c = rw (c.from.ensures, c.from-2.ensures) (remainder_is c.requires)
