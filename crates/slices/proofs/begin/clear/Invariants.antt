-- `clear` clears the fronts of the blocks. The invariant: those of the blocks passed are cleared.
use mathlib.Core.Path.{◌≡◌}
use Rattle.sequences.specs.Backwards.{backwards_over}
use Rattle.slices.proofs.Beginning.{fronts}
use Rattle.slices.proofs.begin.clear.Given as goal

abbrev pub invariant-loop-h : goal.invariant-loop-h
invariant-loop-h l = l.saved ≡ backwards_over (fronts l.h) l.initial.saved
