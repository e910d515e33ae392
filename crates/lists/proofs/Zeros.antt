-- Lists of zeros: every entry is 0, past the end too, and a part is one.
use mathlib.Core.Path.{◌≡◌, refl, sym, ap, ◌∙◌}
use mathlib.Core.List.{List}
use Prim.Native.Nat.{ℕ, zero, suc, ◌+◌}
use lib.ListN.{get_or, drop, replicate, length-replicate, replicate-append-replicate}
use lib.Seq.{drop_at}

abbrev pub zeros : ℕ → List ℕ
zeros n = replicate n 0

pub zeros-entry : (n k : ℕ) → get_or (zeros n) k 0 ≡ 0
zeros-entry zero k = refl
zeros-entry (suc n) zero = refl
zeros-entry (suc n) (suc k) = zeros-entry n k

pub drop-zeros : (m k : ℕ) → drop m (zeros (m + k)) ≡ zeros k
drop-zeros m k =
    let none : ℕ = 0 in
    ap (drop m) (sym (replicate-append-replicate m k none)) ∙ drop_at (zeros m) (zeros k) m (length-replicate m none)
