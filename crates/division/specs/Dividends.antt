-- What division by a generator polynomial asks: of cells, and of a row.
use Rattle.std.specs.Prelude.{List, ℕ, ◌≤◌, ◌<◌, length, get_or}
use Rattle.division.specs.GeneratorPolynomial.{Divisor}

-- the cells are divided by a polynomial of degree m
pub record Dividend (cells generator : List ℕ) (m : ℕ) : Type 0 where
  pub divisor : Divisor m generator
  pub reach : m ≤ length cells
  pub narrow : length cells ≤ 256
  pub small : (k : ℕ) → get_or cells k 0 < 65536

-- the first m columns of a row are filled from the symbols after them
pub record EncodableRow (generator : List ℕ) (m : ℕ) (row : List ℕ) : Type 0 where
  pub divisor : Divisor m generator
  pub reach : m ≤ length row
  pub narrow : length row ≤ 256
  pub small : (i : ℕ) → m ≤ i → i < length row → get_or row i 0 < 257
