-- `wide_sum` sums the products. The invariant: the halves are those of the products passed.
use mathlib.Core.List.{List}
use Prim.Native.Nat.{ℕ, ◌+◌, ◌*◌}
use lib.ListN.{get_or}
use Rattle.lists.proofs.Halves.{Halved}
use Rattle.discrepancy.proofs.sums.wide_sum.Given as goal

abbrev pub term : (taps symbols : List ℕ) (from k : ℕ) → ℕ
term taps symbols from k = get_or taps k 0 * get_or symbols (from + k) 0

abbrev pub invariant-loop-i : goal.invariant-loop-i
invariant-loop-i l = Halved l.i-end (term l.taps l.symbols l.from) l.i l.low l.high
