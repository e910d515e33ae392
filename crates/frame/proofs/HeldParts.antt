-- The check sums of a row among those that are held.
use mathlib.Core.List.{List}
use Prim.Native.Nat.{ℕ, ◌+◌, ◌≤◌, ◌<◌}
use native.Mathlib.Decide.{dec_lt}
use native.Mathlib.Omega.{arith}
use lib.Dec.{lit<}
use lib.ListN.{get_or, take, drop}
use borrow.Rule.Slice.PartMut.{mid_of}
use Rattle.frame.specs.Frame.{sums_before}
use Rattle.frame.specs.Shape.{checks_of}
use Rattle.frame.specs.declared.Shape.{Shape}
use Rattle.lists.proofs.Entries.{get_d_part, get_or-take-past}

abbrev pub part_of : Shape → (sums : List ℕ) (h : ℕ) → List ℕ
part_of s sums h = take (checks_of s h) (drop (sums_before s h) sums)

pub part-below : (sums : List ℕ) → ((k : ℕ) → get_or sums k 0 < 257) → (a n k : ℕ) → get_or (mid_of a n sums) k 0 < 257
part-below sums small a n k = pick (dec_lt k n)
  where
    pick : Dec (k < n) → get_or (take n (drop a sums)) k 0 < 257
    pick (yes l) = rw (get_d_part a n sums k 0 l) (small (a + k))
    pick (no l) = rw (get_or-take-past n (drop a sums) k 0 (let q : n ≤ k = omega arith in q)) (lit< tt)
