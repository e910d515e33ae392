-- What is asked where a polynomial is evaluated at 3^e: the table of powers, no more coefficients than it has, which are residues, and exponents k·e that fit
-- 32 bits.
use Rattle.std.specs.Prelude.{◌≡◌, List, ℕ, ◌+◌, ◌*◌, ◌≤◌, ◌<◌, length, get_or}
use Rattle.field257.specs.Table.{table}

pub record Evaluable (powers f : List ℕ) (e : ℕ) : Type 0 where
  pub powers_known : powers ≡ table
  pub few : length f ≤ 256
  pub below : (k : ℕ) → get_or f k 0 < 257
  pub exponent : e < 16777216

-- two coefficients of f from k on and two from j on, residues, and a point
pub record Paired (f : List ℕ) (k j y : ℕ) : Type 0 where
  pub first : k + 2 ≤ length f
  pub second : j + 2 ≤ length f
  pub below : (i : ℕ) → get_or f i 0 < 257
  pub point : y ≤ 256

-- the value at y of the polynomial of the two coefficients of f from k on
abbrev pub linear_at : (f : List ℕ) (k y : ℕ) → ℕ
linear_at f k y = get_or f k 0 + y * get_or f (k + 1) 0
