-- A list followed by zeros: its entries are those of the list, past the end of it too, and it is as long as it is filled up to.
use mathlib.Core.Path.{◌≡◌, refl, ap, ◌∙◌}
use mathlib.Core.List.{List, [], ◌∷◌, ◌++◌}
use Prim.Native.Nat.{ℕ, zero, suc, ◌+◌, ◌-◌, ◌≤◌}
use native.Mathlib.Omega.{arith}
use lib.ListN.{length, get_or, replicate, length-append, length-replicate}
use Rattle.lists.proofs.Zeros.{zeros-entry}

pub padded_entry : (xs : List ℕ) (n i : ℕ) → get_or (xs ++ replicate n 0) i 0 ≡ get_or xs i 0
padded_entry [] n i = zeros-entry n i
padded_entry (x ∷ xs) n zero = refl
padded_entry (x ∷ xs) n (suc i) = padded_entry xs n i

pub padded_length : (xs : List ℕ) (n : ℕ) → length xs ≤ n → length (xs ++ replicate (n - length xs) 0) ≡ n
padded_length xs n fits =
    length-append xs (replicate (n - length xs) 0) ∙ ap (λ m. length xs + m) (length-replicate (n - length xs) 0)
    ∙ (let e : length xs + (n - length xs) ≡ n = omega arith in e)
