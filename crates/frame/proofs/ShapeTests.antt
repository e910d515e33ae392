-- The test of one check count.
use mathlib.Core.Path.{◌≡◌, ap₂}
use mathlib.Core.Bool.{Bool, true, ◌&&◌}
use Prim.Native.Nat.{ℕ, ◌≤◌, ◌<◌}
use lib.Dec.{leb, ltb}
use borrow.Author.Tests.{le-leb, lt-ltb}

abbrev pub count_test : (n k : ℕ) → Bool
count_test n k = leb 1 k && (leb k 64 && ltb k n)

pub count-taken : (n k : ℕ) → 1 ≤ k → k ≤ 64 → k < n → count_test n k ≡ true
count-taken n k a b c = ap₂ ◌&&◌ (le-leb 1 k a) (ap₂ ◌&&◌ (le-leb k 64 b) (lt-ltb k n c))
