-- `longest` answers the largest length. The invariant: the largest is that of what was found and of what is to come.
use mathlib.Core.Path.{◌≡◌}
use Prim.Native.Nat.{max}
use lib.ListN.{drop}
use Rattle.register.specs.Sequences.{largest}
use Rattle.sequences.proofs.check.longest.Given as goal

abbrev pub invariant-loop-n : goal.invariant-loop-n
invariant-loop-n l = max l.most (largest (drop l.n-index l.lengths)) ≡ largest l.lengths
