-- The test of the number of sequences read as bounds.
use mathlib.Core.Path.{◌≡◌}
use mathlib.Core.Bool.{true, and-eq-true_iff}
use Prim.Native.Nat.{ℕ, ◌≤◌}
use borrow.Author.Tests.{leb-true}
use lib.Dec.{leb}
use Rattle.sequences.specs.Tests.{is_counted}

pub counted-bounds : (n : ℕ) → is_counted n ≡ true → (1 ≤ n) × (n ≤ 8)
counted-bounds n e =
    let both = (and-eq-true_iff (leb 1 n) (leb n 8)).0 e in
    (leb-true 1 n both.0, leb-true n 8 both.1)
