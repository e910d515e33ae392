-- `brute::shortest::solvable` meets its contract.
use Rattle.std.proofs.Common.{◌≡◌, ◌≤◌, length}
use Rattle.brute.proofs.AllSequences.{FirstGathered}
use Rattle.brute.proofs.shortest.solvable.Given as goal

abbrev pub invariant-loop-h : goal.invariant-loop-h
invariant-loop-h l =
    (l.h-end ≡ length l.lengths) × (l.h ≤ l.h-end) × FirstGathered l.p l.l l.lengths l.symbols l.h l.initial.table l.table
