-- What is asked where a number v is reduced modulo p by the reciprocal m of p.
use Rattle.std.specs.Prelude.{◌≡◌, ℕ, ◌+◌, ◌*◌, ◌/◌, ◌≤◌, ◌<◌}

-- v is below p², as a product of residues is; m is in parts of 2^48, rounded up
pub record Dividend (v p m : ℕ) : Type 0 where
  pub positive : 0 < p
  pub modulus : p ≤ 65521
  pub product : v < p * p
  pub reciprocal : m ≡ 281474976710655 / p + 1

-- v is at most p times 2^24 − 1, as a sum of up to 129 products of residues is; m is in parts of 2^40
pub record WideDividend (v p m : ℕ) : Type 0 where
  pub positive : 0 < p
  pub modulus : p ≤ 65521
  pub quotient : v ≤ 16777215 * p
  pub reciprocal : m ≡ 1099511627776 / p
