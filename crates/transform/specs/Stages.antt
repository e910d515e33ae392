-- Check sums in stages: a number-theoretic transform to base 4. A stage reads n classes of exponents and writes 4 n: column i of class c stands at n i + c,
-- and class 4 c + m is of those exponents of class c whose next digit to base 4 is m. After three stages each class has four columns and one exponent below 64,
-- whose digits stand in the class in the other order.
use Rattle.std.specs.Prelude.{List, ℕ, ◌+◌, ◌*◌, ◌/◌, ◌%◌, ◌^◌, ◌≤◌, ◌<◌, ◌≡◌, length, get_or}
use Rattle.lists.specs.Tabulate.{tabulate}
use Rattle.lists.specs.Total.{total}
use Rattle.field257.specs.Powers.{power_of3}

-- the number with the three digits of c to base 4 in the other order
abbrev pub reversal : ℕ → ℕ
reversal c = c / 16 + 4 * (c / 4 % 4) + 16 * (c % 4)

-- the factor of entry k before a stage that reads n classes: the difference that the digits so far make
unfoldable pub factor_of : (n k : ℕ) → ℕ
factor_of n k = power_of3 (k / 64 * reversal (k % n))

-- factors of any columns, then those before the later stages
pub record Staging (t : List ℕ) : Type 0 where
  pub size : length t ≡ 1024
  pub small : (k : ℕ) → k < 256 → get_or t k 0 ≤ 257
  pub later : (s k : ℕ) → 1 ≤ s → s < 4 → k < 256 → get_or t (256 * s + k) 0 ≡ factor_of (4 ^ s) k

-- the value at 3^k of a row x of up to 256 columns with each symbol times its factor
unfoldable pub weighed_sum : (t x : List ℕ) (k : ℕ) → ℕ
weighed_sum t x k = total 256 (λ i. get_or x i 0 * (get_or t i 0 * 3 ^ (i * k))) % 257

-- the values at 3^0 .. 3^(m − 1)
unfoldable pub weighed_sums : (t : List ℕ) (m : ℕ) (x : List ℕ) → List ℕ
weighed_sums t m x = tabulate m (weighed_sum t x)
