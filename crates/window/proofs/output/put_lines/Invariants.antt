-- `window::output::put_lines` meets its contract.
use Prim.Native.Nat.{◌-◌}
use Rattle.window.proofs.Putting.{Putting}
use Rattle.window.proofs.output.put_lines.Given as goal

abbrev pub invariant-loop-used : goal.invariant-loop-used
invariant-loop-used l =
    Putting l.buffer l.end l.more l.initial.start l.out l.start l.used

abbrev pub decreases-loop-used : goal.decreases-loop-used
decreases-loop-used l = l.end - l.start
