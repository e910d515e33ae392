-- Prime numbers, as plain arithmetic says it.
use Rattle.std.specs.Prelude.{◌≡◌, ◌⊎◌, ℕ, ◌*◌, ◌≤◌}

-- p is two or more, and whatever divides it is 1 or p
pub record Prime (p : ℕ) : Type 0 where
  pub two_or_more : 2 ≤ p
  pub divisor : (d k : ℕ) → d * k ≡ p → (d ≡ 1) ⊎ (d ≡ p)
