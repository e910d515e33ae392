-- `field257::montgomery::companions` meets its contract.
use lib.ListN.{get_or}
use Rattle.field257.specs.Montgomery.{companion}
use Rattle.lists.proofs.Filling.{Filled}
use Rattle.lists.proofs.Zeros.{zeros}
use Rattle.field257.proofs.montgomery.companions.Given as goal

abbrev pub invariant-loop-k : goal.invariant-loop-k
invariant-loop-k l = Filled (λ k. companion (get_or l.x k 0)) (zeros 64) l.k l.z
