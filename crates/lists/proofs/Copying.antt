-- A list that is copied entry after entry, as far as it goes, is the first part of what it is copied into.
use mathlib.Core.Path.{◌≡◌, ◌∙◌}
use mathlib.Core.List.{List}
use Prim.Native.Nat.{ℕ, ◌≤◌}
use native.Mathlib.Omega.{arith}
use lib.ListN.{length, get_or, take}
use Rattle.lists.proofs.Filling.{Filled, filled-entry, take-tabulate}
use Rattle.lists.proofs.Tabulated.{tabulate_ext, tabulate-get_or}

pub copied_whole : (x from : List ℕ) (j : ℕ) (l : List ℕ) → Filled (λ k. get_or x k 0) from j l → length x ≤ j → take (length x) l ≡ x
copied_whole x from j l a le =
    take-tabulate (length x) l (let w = a.within in let s = a.size in omega arith)
    ∙ tabulate_ext (length x) (λ k. get_or l k 0) (λ k. get_or x k 0) (λ k b. filled-entry _ from j l a k (omega arith)) ∙ tabulate-get_or x 0
