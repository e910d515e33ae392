-- `tomkhadi::run` meets its contract.
use Rattle.window.specs.Window.{Inside}
use Rattle.tomkhadi.proofs.Running.{Running}
use Rattle.tomkhadi.proofs.run.Given as goal

abbrev pub invariant-loop-turns : goal.invariant-loop-turns
invariant-loop-turns l = record { made : Running l.buffer l.w l.turns; inside : Inside l.w l.buffer }

abbrev pub decreases-loop-turns : goal.decreases-loop-turns
decreases-loop-turns l = l.turns
