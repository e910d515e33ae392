-- `lanes::symbols::locators_to` meets its contract.
use lib.ListN.{get_or}
use Rattle.lanes.specs.Symbols.{locators_to}
use Rattle.lists.proofs.Filling.{Filled}
use Rattle.lists.proofs.Zeros.{zeros}
use Rattle.lanes.proofs.symbols.locators_to.Given as goal

abbrev pub invariant-loop-k : goal.invariant-loop-k
invariant-loop-k l = Filled (λ k. get_or (locators_to l.m l.list l.e) k 0) (zeros 64) l.k l.x
