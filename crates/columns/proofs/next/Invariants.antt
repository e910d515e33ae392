-- `columns::next` meets its contract. The loop's invariant: no column from `from` up to `at` is marked, and `at` stands in word w.
use mathlib.Core.Path.{◌≡◌}
use Prim.Native.Nat.{◌/◌}
use Rattle.columns.proofs.Words.{Passed}
use Rattle.columns.proofs.next.Given as goal

abbrev pub invariant-loop-w : goal.invariant-loop-w
invariant-loop-w l = Passed l.c l.from l.at × (l.at / 64 ≡ l.w)
