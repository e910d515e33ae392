-- What is asked where a column is weighed, and where a symbol is read off with the coefficients.
use Rattle.std.specs.Prelude.{◌≡◌, List, ℕ, ◌≤◌, ◌<◌, length, get_or}
use Rattle.field257.specs.Table.{table}

-- the table of powers, an exponent of a shape, a column of a frame, and coefficients: one or more, so that there is a last check sum to be read off, and no
-- more than a set has columns
pub record Weighable (powers : List ℕ) (b i : ℕ) (row : List ℕ) : Type 0 where
  pub powers_known : powers ≡ table
  pub exponent : b ≤ 255
  pub column : i < 256
  pub some : 1 ≤ length row
  pub few : length row ≤ 64

-- a symbol is read off the sums, one for each coefficient
pub record Readable (coefficients sums : List ℕ) : Type 0 where
  pub few : length coefficients ≤ 64
  pub reach : length coefficients ≤ length sums
  pub sums-small : (k : ℕ) → get_or sums k 0 < 257
