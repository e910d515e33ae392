-- `uniform::mended::first_outside` meets its contract.
use mathlib.Core.Bool.{not}
use Rattle.columns.specs.Columns.{has}
use Rattle.columns.proofs.FirstOutside.{Passed}
use Rattle.uniform.proofs.mended.first_outside.Given as goal

abbrev pub invariant-loop-k : goal.invariant-loop-k
invariant-loop-k l = Passed l.n (λ i. not (has l.set i)) l.k
