-- Which numbers are prime, and which of them are taken as a modulus (SPECIFICATION.md, "Refusals": 1).
use Rattle.std.specs.Prelude.{◌≡◌, ◌⊎◌, Bool, true, not, ◌&&◌, ℕ, zero, suc, ◌+◌, ◌-◌, ◌*◌, ◌%◌, ◌≤◌, leb, eqb}

-- p is two or more, and whatever divides it is 1 or p
pub record Prime (p : ℕ) : Type 0 where
  pub two_or_more : 2 ≤ p
  pub divisor : (d k : ℕ) → d * k ≡ p → (d ≡ 1) ⊎ (d ≡ p)

-- none of the n numbers 2, 3, .., n + 1 divides p
unfoldable pub no_divisor : ℕ → ℕ → Bool
no_divisor p zero = true
no_divisor p (suc n) = not (eqb (p % (n + 2)) 0) && no_divisor p n

-- the same as `Prime`, as a test: p is two or more, and no number from 2 to p − 1 divides it
unfoldable pub is_prime : ℕ → Bool
is_prime p = leb 2 p && no_divisor p (p - 2)

-- p is not refused: it is neither below 2, nor above 65521, nor without being prime
unfoldable pub is_modulus : ℕ → Bool
is_modulus p = leb p 65521 && is_prime p
