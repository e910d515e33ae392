-- Totals that a multiple of check sums is added to: c times the sum at place `from` + j to total j, for each j below `count`.
use Rattle.std.specs.Prelude.{◌≡◌, List, ℕ, ◌+◌, ◌*◌, ◌^◌, ◌≤◌, ◌<◌, length, get_or}

-- the first n totals are what g says
pub record Totals (n : ℕ) (g : ℕ → ℕ) (totals : List ℕ) : Type 0 where
  pub size : length totals ≡ 64
  pub each : (j : ℕ) → j < n → get_or totals j 0 ≡ g j

-- total j with its product
abbrev pub grown : (totals : List ℕ) (c : ℕ) (sums : List ℕ) (from j : ℕ) → ℕ
grown totals c sums from j = get_or totals j 0 + c * get_or sums (from + j) 0

-- there is a total and a sum for each j, and no total leaves 32 bits
pub record Addable (totals : List ℕ) (c : ℕ) (sums : List ℕ) (from count : ℕ) : Type 0 where
  pub size : length totals ≡ 64
  pub few : count ≤ 64
  pub inside : (j : ℕ) → j < count → from + j < length sums
  pub fits : (j : ℕ) → j < count → grown totals c sums from j < 2 ^ 32
