-- `brute::shortest::add_sequence` meets its contract.
use Rattle.std.proofs.Common.{◌≡◌, ◌≤◌, length}
use Rattle.brute.proofs.OneSequence.{SoFar}
use Rattle.brute.proofs.shortest.add_sequence.Given as goal

abbrev pub invariant-loop-j : goal.invariant-loop-j
invariant-loop-j l = (l.j-end ≡ length l.s) × (l.l ≤ l.j) × (l.j ≤ l.j-end) × SoFar l.p l.l l.s l.initial.table l.j l.table
