-- A modulus with what is worked out of it once.
use Rattle.std.specs.Prelude.{◌≡◌, List, ℕ, ◌+◌, ◌*◌, ◌/◌, ◌%◌, ◌≤◌, ◌<◌, length, get_or}
use Rattle.discrepancy.specs.declared.Modulus.{Modulus}

-- what is asked of p: it is in its range, and odd but for 2, as a prime is
pub record Taken (p : ℕ) : Type 0 where
  pub two_or_more : 2 ≤ p
  pub modulus : p ≤ 65521
  pub odd : (p ≡ 2 → ⊥) → p % 2 ≡ 1

-- what is worked out of p is right
pub record WorkedOut (f : Modulus) : Type 0 where
  pub taken : Taken f.p
  pub wide : f.wide ≡ 1099511627776 / f.p
  pub reciprocal : f.reciprocal ≡ 281474976710655 / f.p + 1
  pub unit : f.unit ≡ 65536 % f.p
  pub inverse : (f.p ≡ 2 → ⊥) → (f.p * f.inverse) % 65536 ≡ 1

-- the array from which p is read
pub record Moduli (p : ℕ) (moduli : List ℕ) : Type 0 where
  pub width : length moduli ≡ 144
  pub each : (i : ℕ) → i < 144 → get_or moduli i 0 ≡ p
