-- What is looked at to tell whether a frame will be uniform once rows are completed: the cells that stay, and the check sums of a row that holds one symbol.
use Rattle.std.specs.Prelude.{◌≡◌, Bool, true, ◌||◌, List, ℕ, suc, ◌≤◌, ◌<◌, eqb, ltb, replicate}
use Rattle.columns.specs.Columns.{has}
use Rattle.columns.specs.declared.Columns.{Columns}
use Rattle.frame.specs.Frame.{cell, check_sum}
use Rattle.frame.specs.Shape.{checks_of, is_shape}
use Rattle.frame.specs.declared.Shape.{Shape}
use Rattle.lists.specs.Tabulate.{every}

-- whether every data cell holds a
abbrev pub data_hold : Shape → (f : List ℕ) (a : ℕ) → Bool
data_hold s f a = every s.rows (λ h. every s.columns (λ k. ltb k (checks_of s h) || eqb (cell s.columns f h k) a))

-- whether every cell outside the columns J h of row h holds a
abbrev pub kept_hold : Shape → (J : ℕ → Columns) (f : List ℕ) (a : ℕ) → Bool
kept_hold s J f a = every s.rows (λ h. every s.columns (λ k. has (J h) k || eqb (cell s.columns f h k) a))

-- whether the first m check sums of n cells that all hold a are 0
abbrev pub constant_coded : (b n a m : ℕ) → Bool
constant_coded b n a m = every m (λ j. eqb (check_sum b n (replicate n a) (suc j)) 0)

-- these sums can be made: an exponent of a shape, no more columns and sums than a frame has, and a symbol
pub record Summed (b n a m : ℕ) : Type 0 where
  pub exponent : b ≤ 255
  pub narrow : n ≤ 256
  pub symbol : a < 257
  pub few : m ≤ 64

-- the sums of each row h can be made, as many as counted: a shape and a symbol, and a count that a row can have
pub record SummedRows (s : Shape) (a : ℕ) (asks : ℕ → Type 0) (counts : ℕ → ℕ → Type 0) : Type 0 where
  pub shape : is_shape s ≡ true
  pub symbol : a < 257
  pub counted : (h : ℕ) → h < s.rows → asks h
  pub few : (h n : ℕ) → h < s.rows → counts h n → n ≤ 64
