-- `erasures::cells::nothing` meets its contract.
use mathlib.Core.Path.{◌≡◌}
use lib.Dec.{eqb}
use lib.ListN.{get_or}
use Rattle.lists.specs.Tabulate.{every}
use Rattle.erasures.proofs.cells.nothing.Given as goal

abbrev pub invariant-loop-word : goal.invariant-loop-word
invariant-loop-word l = l.none ≡ every l.word-index (λ k. eqb (get_or l.declared k 0) 0)
