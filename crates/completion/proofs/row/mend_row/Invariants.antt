-- `completion::row::mend_row` meets its contract.
use Prim.Native.Nat.{ℕ}
use lib.ListN.{length}
use Rattle.completion.proofs.SymbolsAdded.{Adding}
use Rattle.completion.proofs.row.mend_row.Given as goal

abbrev pub invariant-loop-k : goal.invariant-loop-k
invariant-loop-k l = (i : ℕ) × Adding l.fn.b l.fn.set l.fn.sums l.initial.row (length l.yielded) i l.row
