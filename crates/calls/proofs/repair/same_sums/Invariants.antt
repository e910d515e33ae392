-- `calls::repair::same_sums` meets its contract.
use mathlib.Core.Path.{◌≡◌}
use lib.Dec.{eqb}
use lib.ListN.{get_or}
use Rattle.lists.specs.Tabulate.{every}
use Rattle.calls.proofs.repair.same_sums.Given as goal

abbrev pub invariant-loop-k : goal.invariant-loop-k
invariant-loop-k l = l.same ≡ every l.k (λ k. eqb (get_or l.a k 0) (get_or l.b k 0))
