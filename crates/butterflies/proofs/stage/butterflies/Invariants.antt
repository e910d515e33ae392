-- `butterflies::stage::butterflies` meets its contract.
use Prim.Native.Nat.{◌*◌}
use Rattle.butterflies.proofs.ButterflyLaws.{Written}
use Rattle.butterflies.proofs.stage.butterflies.Given as goal

abbrev pub invariant-loop-l : goal.invariant-loop-l
invariant-loop-l l = Written l.t l.x (4 * l.l) l.y
