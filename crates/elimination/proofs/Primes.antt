-- The plain definition of a prime is the library's.
use Prim.Native.Nat.{ℕ}
use Rattle.field.proofs.Prime257.{prime_257}
use Rattle.field.specs.Prime as Field
use Rattle.elimination.specs.Prime.{Prime}

pub in_field : (p : ℕ) → Prime p → Field.Prime p
in_field p prime = record { two_or_more = prime.two_or_more; divisor = prime.divisor }

pub plain-prime_257 : Prime 257
plain-prime_257 = record { two_or_more = prime_257.two_or_more; divisor = prime_257.divisor }
