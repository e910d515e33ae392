-- The generator polynomial of m checks from the exponent b on, whose multiples are the rows with the first m check sums 0.
use Rattle.std.specs.Prelude.{◌≡◌, List, ℕ, suc, ◌<◌, length, get_or}
use Rattle.frame.specs.Frame.{check_sum}

-- a polynomial of degree m with the leading coefficient −1, and zeros after it
pub record Divisor (m : ℕ) (g : List ℕ) : Type 0 where
  pub size : m < length g
  pub below : (k : ℕ) → get_or g k 0 < 257
  pub leading : get_or g m 0 ≡ 256
  pub past : (k : ℕ) → m < k → get_or g k 0 ≡ 0

-- The coefficients of minus the product of z − 3^e over e = b .. b + m − 1: as a row of m + 1 columns they have the check sums S_1 .. S_m, the values at
-- 3^b .. 3^(b + m − 1), equal to 0. (The leading coefficient and m roots determine a polynomial of degree m, so that one list of each length is left.)
pub record GeneratorPolynomial (b m : ℕ) (g : List ℕ) : Type 0 where
  pub divisor : Divisor m g
  pub sums : (j : ℕ) → j < m → check_sum b (suc m) g (suc j) ≡ 0
