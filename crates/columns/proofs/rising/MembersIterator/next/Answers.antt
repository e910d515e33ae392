use mathlib.Core.Path.{ap}
use native.Mathlib.Omega.{arith}
use lib.ListN.{length}
use Rattle.columns.proofs.Coming.{none-coming, next-within, one-coming}
use Rattle.columns.proofs.rising.MembersIterator.next.Goals as goal

pub returns-then-i-eq256-clause-steps : goal.returns-then-i-eq256-clause-steps
returns-then-i-eq256-clause-steps c =
    let none = none-coming _ _ _ c.next-i.ensures c.if-i-eq256.true in (none, none)

pub overflow_add-self : goal.overflow_add-self
overflow_add-self c = omega (arith, next-within _ _ _ c.next-i.ensures)

pub returns-clause-steps : goal.returns-clause-steps
returns-clause-steps c = one-coming _ _ _ c.next-i.ensures c.if-i-eq256.false

pub returns-clause-goes : goal.returns-clause-goes
returns-clause-goes c = record {
  on = λ f. (tt, tt, omega (arith, ap length (one-coming _ _ _ c.next-i.ensures c.if-i-eq256.false)));
  keeps = tt;
  rests = λ f. tt;
}
