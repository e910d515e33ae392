-- What summing a row asks.
use Rattle.std.specs.Prelude.{◌≡◌, List, ℕ, ◌≤◌, ◌<◌, length, get_or}
use Rattle.field257.specs.Table.{table}

-- the table of powers, an exponent of a shape, and a row of symbols with no more columns and check sums than a frame has
pub record Summable (powers : List ℕ) (b : ℕ) (x sums : List ℕ) : Type 0 where
  pub powers_known : powers ≡ table
  pub exponent : b ≤ 255
  pub narrow : length x ≤ 256
  pub symbols : (k : ℕ) → get_or x k 0 < 257
  pub few : length sums ≤ 64
