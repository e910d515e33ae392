-- `lanes::symbols::listed` meets its contract.
use lib.ListN.{length, get_or}
use Rattle.columns.specs.Columns.{members}
use Rattle.lists.proofs.Filling.{Filled}
use Rattle.lists.proofs.Zeros.{zeros}
use Rattle.lanes.proofs.symbols.listed.Given as goal

abbrev pub invariant-loop-k : goal.invariant-loop-k
invariant-loop-k l = Filled (λ k. get_or (members l.fn.set) k 0) (zeros 64) (length l.yielded) l.list
