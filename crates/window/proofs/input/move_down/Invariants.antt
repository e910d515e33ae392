-- `window::input::move_down` meets its contract.
use Rattle.lists.proofs.Moving.{Moved}
use Rattle.window.proofs.input.move_down.Given as goal

abbrev pub invariant-loop-i : goal.invariant-loop-i
invariant-loop-i l = Moved l.initial.buffer l.from l.buffer l.i
