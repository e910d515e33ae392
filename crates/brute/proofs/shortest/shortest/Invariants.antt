-- `brute::shortest::shortest` meets its contract.
use Rattle.std.proofs.Common.{◌≤◌}
use Rattle.brute.proofs.Searching.{NoneBelow}
use Rattle.brute.proofs.shortest.shortest.Given as goal

abbrev pub invariant-loop-l : goal.invariant-loop-l
invariant-loop-l l = (l.l ≤ 129) × NoneBelow l.p l.lengths l.symbols l.initial.table l.l l.table
