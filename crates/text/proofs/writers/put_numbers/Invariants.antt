-- `text::writers::put_numbers` meets its contract.
use Rattle.text.proofs.Spacing.{Spaced}
use Rattle.text.proofs.writers.put_numbers.Given as goal

abbrev pub invariant-loop-x : goal.invariant-loop-x
invariant-loop-x l = Spaced l.xs l.initial.out l.at l.x-index l.out l.end
