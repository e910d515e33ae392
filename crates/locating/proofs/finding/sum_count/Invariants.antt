-- `locating::finding::sum_count` meets its contract: the checks of the rows passed are added.
use Rattle.lists.proofs.Summing.{Summed}
use Rattle.frame.specs.Shape.{checks_of}
use Rattle.locating.proofs.finding.sum_count.Given as goal

abbrev pub invariant-loop-h : goal.invariant-loop-h
invariant-loop-h l = Summed l.s.rows 64 (checks_of l.s) l.h l.all
