-- `codec::sums::plain_sums` meets its contract. The loop fills the list with the check sums.
use Prim.Native.Nat.{suc}
use lib.ListN.{length}
use Rattle.lists.proofs.Filling.{Filled}
use Rattle.frame.specs.Frame.{check_sum}
use Rattle.codec.proofs.sums.plain_sums.Given as goal

abbrev pub invariant-loop-k : goal.invariant-loop-k
invariant-loop-k l = Filled (λ i. check_sum l.b (length l.x) l.x (suc i)) l.initial.sums l.k l.sums
