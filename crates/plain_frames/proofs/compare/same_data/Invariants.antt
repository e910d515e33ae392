-- `plain_frames::compare::same_data` meets its contract.
use mathlib.Core.Path.{◌≡◌}
use lib.ListN.{length, get_or}
use Rattle.plain_frames.specs.Frames.{row}
use Rattle.plain.specs.Plain.{Each}
use Rattle.plain_frames.proofs.compare.same_data.Given as goal

abbrev pub invariant-loop-h : goal.invariant-loop-h
invariant-loop-h l =
    Each 0 l.h (λ k. Each (get_or l.checks k 0) (length (row l.a l.columns k)) (λ i. get_or (row l.a l.columns k) i 0 ≡ get_or (row l.b l.columns k) i 0))
