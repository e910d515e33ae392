-- `every` answers whether every entry passes. The invariant: it is what the entries passed answer.
use mathlib.Core.Path.{◌≡◌}
use mathlib.Core.Bool.{Bool}
use Prim.Native.Nat.{ℕ, ◌<◌}
use lib.ListN.{length, get_or}
use Rattle.lists.proofs.Testing.{Tested}
use Rattle.sequences.proofs.every.every.Given as goal

abbrev pub invariant-loop-v : goal.invariant-loop-v
invariant-loop-v g l =
    (test : ℕ → Bool) → ((v : ℕ) (r : Bool) → v < 65536 → goal.F-post g l.passes v r → r ≡ test v) →
    Tested (length l.x) (λ k. test (get_or l.x k 0)) l.v-index l.all
