-- `plain_frames::frames::size` meets its contract.
use mathlib.Core.Path.{◌≡◌}
use lib.ListN.{get_or}
use Rattle.plain.specs.Plain.{capped, sum}
use Rattle.plain_frames.proofs.frames.size.Given as goal

abbrev pub invariant-loop-x : goal.invariant-loop-x
invariant-loop-x l = l.n ≡ capped (sum l.x-index (λ k. get_or l.marks k 0))
