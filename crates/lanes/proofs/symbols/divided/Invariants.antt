-- `lanes::symbols::divided` meets its contract.
use lib.ListN.{get_or}
use Rattle.lanes.specs.Symbols.{symbols_in}
use Rattle.lists.proofs.Filling.{Filled}
use Rattle.lists.proofs.Zeros.{zeros}
use Rattle.lanes.proofs.symbols.divided.Given as goal

abbrev pub invariant-loop-k : goal.invariant-loop-k
invariant-loop-k l = Filled (λ k. get_or (symbols_in l.m l.weights l.lanes) k 0) (zeros 64) l.k l.symbols
