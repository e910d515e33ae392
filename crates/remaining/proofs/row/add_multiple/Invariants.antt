-- `remaining::row::add_multiple` meets its contract.
use Rattle.lists.proofs.Filling.{Filled}
use Rattle.remaining.specs.Multiples.{grown}
use Rattle.remaining.proofs.row.add_multiple.Given as goal

abbrev pub invariant-loop-j : goal.invariant-loop-j
invariant-loop-j l = Filled (grown l.initial.totals l.c l.sums l.from) l.initial.totals l.j l.totals
