-- `transform::stages::staged_sums` meets its contract. The loop fills the list with what the last stage has, class after class.
use Rattle.lists.proofs.Filling.{Filled}
use Rattle.transform.specs.Stages.{weighed_sum}
use Rattle.transform.proofs.stages.staged_sums.Given as goal

abbrev pub invariant-loop-k : goal.invariant-loop-k
invariant-loop-k l = Filled (weighed_sum l.t l.x) l.initial.sums l.k l.sums
