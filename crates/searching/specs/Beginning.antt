-- What beginning a search asks of what it is lent.
use Rattle.std.specs.Prelude.{ℕ, ◌≤◌, List, length, take}
use Rattle.slices.specs.Lent.{Lent}

-- the first lengths, and the first symbols, can be searched in slices
pub record Beginnable (rows : ℕ) (lengths : List ℕ) (all : ℕ) (symbols : List ℕ) : Type 0 where
  pub few : rows ≤ 8
  pub room : all ≤ length symbols
  pub lent : Lent (take rows lengths) (take all symbols)
