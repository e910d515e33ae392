-- `all_backwards` fills the blocks. The invariant: those of the sequences passed are filled.
use mathlib.Core.Path.{◌≡◌}
use Rattle.sequences.specs.Backwards.{backwards_over}
use Rattle.sequences.specs.Places.{sequences_at}
use Rattle.sequences.proofs.backwards.all_backwards.Given as goal

abbrev pub invariant-loop-h : goal.invariant-loop-h
invariant-loop-h l = l.blocks ≡ backwards_over (sequences_at l.order l.h l.symbols) l.initial.blocks
