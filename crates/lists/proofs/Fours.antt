-- Four entries of a list from a place on are a part of it.
use mathlib.Core.Path.{◌≡◌, sym, ap, ◌∙◌}
use mathlib.Core.List.{List, [], ◌∷◌}
use Prim.Native.Nat.{ℕ, ◌+◌, ◌≤◌}
use native.Mathlib.Nat.{add-zero}
use native.Mathlib.Omega.{arith}
use lib.ListN.{length, get_or, take, drop, length-drop}
use lib.Seq.{length-take-le}
use Rattle.lists.specs.Tabulate.{tabulate}
use Rattle.lists.proofs.Entries.{get_d_part}
use Rattle.lists.proofs.Filling.{by_entries}

pub four-entries : (l : List ℕ) (a : ℕ) → a + 4 ≤ length l
    → get_or l a 0 ∷ get_or l (a + 1) 0 ∷ get_or l (a + 2) 0 ∷ get_or l (a + 3) 0 ∷ [] ≡ take 4 (drop a l)
unfolding tabulate
four-entries l a inside =
    ap (λ (x : ℕ). get_or l x 0 ∷ get_or l (a + 1) 0 ∷ get_or l (a + 2) 0 ∷ get_or l (a + 3) 0 ∷ []) (sym (add-zero a))
    ∙ sym (by_entries 4 (λ k. get_or l (a + k) 0) (take 4 (drop a l)) (length-take-le 4 (drop a l) (let e = length-drop a l in omega arith))
    (λ k h. get_d_part a 4 l k 0 h))
