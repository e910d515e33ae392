-- `weights::scale` meets its contract.
use lib.ListN.{get_or}
use Rattle.field.specs.Residue.{times}
use Rattle.lists.proofs.Filling.{Filled}
use Rattle.weights.proofs.scale.Given as goal

abbrev pub invariant-loop-entry : goal.invariant-loop-entry
invariant-loop-entry l = Filled (λ k. times 257 (get_or l.initial.row k 0) l.c) l.initial.row l.entry-index l.row
