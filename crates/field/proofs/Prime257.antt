-- 257 is prime, by one computed test.
use mathlib.Core.Path.{refl}
use Rattle.field.specs.Prime.{Prime, no_divisor, is_prime}
use Rattle.field.proofs.PrimeTest.{prime_of_test}

pub prime_257 : Prime 257
unfolding no_divisor is_prime
prime_257 = prime_of_test 257 refl
