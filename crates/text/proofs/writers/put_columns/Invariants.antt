-- `text::writers::put_columns` meets its contract.
use mathlib.Core.Path.{◌≡◌}
use mathlib.Core.List.{◌++◌}
use lib.ListN.{length}
use Rattle.columns.specs.Columns.{members}
use Rattle.columns.specs.Rising.{to_come}
use Rattle.text.proofs.Spacing.{Spaced}
use Rattle.text.proofs.writers.put_columns.Given as goal

abbrev pub invariant-loop-i : goal.invariant-loop-i
invariant-loop-i l =
    (goal.iterator-loop-i).can_next l.i-iterator × (goal.iterator-loop-i).is_finite l.i-iterator ×
    (members l.fn.c ≡ l.yielded ++ to_come l.i-iterator) × Spaced (members l.fn.c) l.initial.out l.at (length l.yielded) l.out l.end
