-- `plain::sequences::start` meets its contract.
use Rattle.std.proofs.Common.{◌≡◌, ◌≤◌, get_or}
use Rattle.plain.specs.Plain.{capped, sum}
use Rattle.plain.proofs.sequences.start.Given as goal

abbrev pub invariant-loop-i : goal.invariant-loop-i
invariant-loop-i l = (l.i ≤ l.h) × (l.at ≡ capped (sum l.i (λ k. get_or l.lengths k 0)))
