-- `plain::sequences::discrepancy` meets its contract.
use Rattle.std.proofs.Common.{◌≡◌, ◌*◌, ◌≤◌, get_or}
use Rattle.plain.specs.Plain.{before, rem, sum}
use Rattle.plain.proofs.sequences.discrepancy.Given as goal

abbrev pub invariant-loop-i : goal.invariant-loop-i
invariant-loop-i l = (l.i ≤ l.n) × (l.d ≡ rem (sum l.i (λ k. get_or l.taps k 0 * before l.s l.j k)) l.p)
