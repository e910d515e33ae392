-- What arithmetic on residues asks: a modulus whose products of residues fit, and residues below it.
use Rattle.std.specs.Prelude.{◌≡◌, ℕ, ◌+◌, ◌/◌, ◌≤◌, ◌<◌}

-- of a sum, a difference or a product
pub record Operands (p a b : ℕ) : Type 0 where
  pub modulus : p ≤ 65521
  pub first : a < p
  pub second : b < p

-- of s times a power of a, m being the reciprocal of p
pub record PowerOperands (p s a m : ℕ) : Type 0 where
  pub modulus : p ≤ 65521
  pub factor : s < p
  pub base : a < p
  pub reciprocal : m ≡ 281474976710655 / p + 1

-- of s over a
pub record QuotientOperands (p s a m : ℕ) : Type 0 where
  pub two_or_more : 2 ≤ p
  pub operands : PowerOperands p s a m
