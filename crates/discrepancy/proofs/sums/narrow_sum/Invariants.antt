-- `narrow_sum` sums the products. The invariant: those passed are summed.
use mathlib.Core.List.{List}
use Prim.Native.Nat.{ℕ, ◌+◌, ◌*◌}
use lib.ListN.{get_or}
use Rattle.lists.proofs.Summing.{Summed}
use Rattle.discrepancy.proofs.sums.narrow_sum.Given as goal

abbrev pub term : (taps symbols : List ℕ) (from k : ℕ) → ℕ
term taps symbols from k = get_or taps k 0 * get_or symbols (from + k) 0

abbrev pub invariant-loop-i : goal.invariant-loop-i
invariant-loop-i l = Summed l.i-end 66049 (term l.taps l.symbols l.from) l.i l.sum
