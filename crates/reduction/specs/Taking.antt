-- Multiples of numbers taken off cells, modulo an odd p: the numbers from `from` on, and the cells from e on.
use Rattle.std.specs.Prelude.{◌≡◌, List, ℕ, ◌+◌, ◌*◌, ◌%◌, ◌≤◌, ◌<◌, length, get_or}
use Rattle.discrepancy.specs.Modulus.{WorkedOut, Moduli}
use Rattle.discrepancy.specs.declared.Modulus.{Modulus}

-- an odd modulus, the array of it, and a factor
pub record Odd (f : Modulus) (moduli : List ℕ) (u : ℕ) : Type 0 where
  pub modulus : WorkedOut f
  pub not-two : f.p ≡ 2 → ⊥
  pub lent : Moduli f.p moduli
  pub factor : u < f.p

-- cells that are residues, so many of which have a number each
pub record Cells (p e from count : ℕ) (cells : List ℕ) : Type 0 where
  pub width : length cells ≡ 144
  pub residues : (k : ℕ) → get_or cells k 0 < p
  pub within : e + count ≤ 144
  pub inside : from + count ≤ 1152

-- the cells once the products of u and their numbers, over 2^16, are taken off
pub record Less (p u : ℕ) (numbers : List ℕ) (from e count : ℕ) (before after : List ℕ) : Type 0 where
  pub width : length after ≡ 144
  pub residues : (k : ℕ) → get_or after k 0 < p
  pub each : (i : ℕ) → i < count → (65536 * get_or after (e + i) 0 + get_or numbers (from + i) 0 * u) % p ≡ (65536 * get_or before (e + i) 0) % p
  pub first : (k : ℕ) → k < e → get_or after k 0 ≡ get_or before k 0
  pub last : (k : ℕ) → e + count ≤ k → get_or after k 0 ≡ get_or before k 0
