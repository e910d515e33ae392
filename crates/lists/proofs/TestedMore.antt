-- A test of every entry, one entry further.
use mathlib.Core.Path.{◌≡◌, sym}
use mathlib.Core.Bool.{Bool, true, false, ◌&&◌, and-true, and-false}
use Prim.Native.Nat.{ℕ, ◌+◌, ◌<◌}
use Rattle.lists.proofs.Testing.{Tested, tested-pass, tested_fail}

pub tested-more : (n : ℕ) (test : ℕ → Bool) (k : ℕ) (all : Bool) → Tested n test k all → k < n → (r : Bool) → r ≡ test k → Tested n test (k + 1) (all && r)
tested-more n test k all before less true e = tested-pass n test k all before less (all && true) (and-true all) (sym e)
tested-more n test k all before less false e = tested_fail n test k all before less (all && false) (and-false all) (sym e)
