-- How a number is written: decimal digits, of which the first is 0 only where it stands alone. Proved in proofs/Numerals.antt.
use Rattle.std.specs.Prelude.{◌≡◌, List, [], ◌∷◌, ℕ, ◌+◌, ◌-◌, ◌*◌, ◌^◌, ◌≤◌, ◌<◌, length, get_or}
use Rattle.text.specs.Text.{decimal}

-- the number that digits in ASCII make after those that made n
unfoldable pub read_from : (n : ℕ) → List ℕ → ℕ
read_from n [] = n
read_from n (d ∷ ds) = read_from (10 * n + (d - 48)) ds

pub record IsNumeral (n : ℕ) (text : List ℕ) : Type 0 where
  pub some : 0 < length text
  pub digits : (i : ℕ) → i < length text → (48 ≤ get_or text i 0) × (get_or text i 0 ≤ 57)
  pub no-zero-first : 1 < length text → get_or text 0 0 ≡ 48 → ⊥
  pub reads : read_from 0 text ≡ n

abbrev pub Numerals : Type 0
Numerals = (n : ℕ) → n < 10 ^ 20 → IsNumeral n (decimal n)
