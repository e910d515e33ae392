-- Arithmetic modulo p on the residues 0 .. p − 1, each result reduced once. The operands are residues, so p − b is no cut-off difference.
use Rattle.std.specs.Prelude.{ℕ, ◌+◌, ◌-◌, ◌*◌, ◌^◌, ◌%◌}

abbrev pub plus : ℕ → ℕ → ℕ → ℕ
plus p a b = (a + b) % p

abbrev pub minus : ℕ → ℕ → ℕ → ℕ
minus p a b = (a + (p - b)) % p

abbrev pub times : ℕ → ℕ → ℕ → ℕ
times p a b = (a * b) % p

abbrev pub power : ℕ → ℕ → ℕ → ℕ
power p a e = (a ^ e) % p

-- SPECIFICATION.md, "Registers": the inverse of a nonzero d is its power p − 2
abbrev pub inverse : ℕ → ℕ → ℕ
inverse p a = power p a (p - 2)

abbrev pub quotient : ℕ → ℕ → ℕ → ℕ
quotient p a b = times p a (inverse p b)
