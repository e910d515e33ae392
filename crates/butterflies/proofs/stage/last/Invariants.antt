-- `butterflies::stage::last` meets its contract.
use Prim.Native.Nat.{◌%◌}
use Rattle.lists.proofs.Filling.{Filled}
use Rattle.butterflies.specs.Butterflies.{butterfly}
use Rattle.butterflies.proofs.stage.last.Given as goal

abbrev pub invariant-loop-l : goal.invariant-loop-l
invariant-loop-l l = Filled (λ k. butterfly l.t l.x k 0 % 257) l.initial.sum-items l.l l.sum-items
