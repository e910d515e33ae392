-- Which numbers `is_modulus` takes: the primes up to 65521, and no other.
use mathlib.Core.Path.{◌≡◌, refl, sym, ◌∙◌}
use mathlib.Core.Logic.{⊎_elim}
use mathlib.Core.Bool.{Bool, true, false, and-eq-true_iff}
use Prim.Native.Nat.{ℕ, ◌*◌, ◌/◌, ◌%◌, ◌≤◌}
use native.Mathlib.Decide.{ℕ_discrete}
use native.Mathlib.Omega.{arith}
use lib.Dec.{leb, eqb}
use borrow.Author.Tests.{leb-true, le-leb, ne_eqb}
use Rattle.field.specs.Prime.{Prime, is_prime, is_modulus}
use Rattle.field.proofs.PrimeTest.{prime_of_test, test_of_prime, undivided-to-root}

pub modulus-prime : (p : ℕ) → is_modulus p ≡ true → Prime p × (p ≤ 65521)
unfolding is_modulus
modulus-prime p t =
    let both = (and-eq-true_iff (leb p 65521) (is_prime p)).0 t in
    (prime_of_test p both.1, leb-true p 65521 both.0)

pub modulus-taken : (p : ℕ) → Prime p → p ≤ 65521 → is_modulus p ≡ true
unfolding is_modulus
modulus-taken p prime le = (and-eq-true_iff (leb p 65521) (is_prime p)).1 (le-leb p 65521 le, test_of_prime p prime)

pub modulus-refused : (p : ℕ) → (Prime p → p ≤ 65521 → ⊥) → is_modulus p ≡ false
modulus-refused p never = pick (is_modulus p) refl
  where
    pick : (b : Bool) → is_modulus p ≡ b → b ≡ false
    pick true e = let known = modulus-prime p e in absurd (never known.0 known.1)
    pick false e = refl

-- 2 is the only even prime
pub even-modulus : (p : ℕ) → p % 2 ≡ 0 → is_modulus p ≡ eqb p 2
even-modulus p even = pick (ℕ_discrete p 2)
  where
    pick : Dec (p ≡ 2) → is_modulus p ≡ eqb p 2
    pick (yes same) = rw same (modulus-taken 2 (undivided-to-root 2 2 (omega arith) (omega arith) (λ e low high z. omega arith)) (omega arith))
    pick (no other) =
        modulus-refused p
        (λ prime le. ⊎_elim (λ one. omega arith) (λ two. other (sym two)) (prime.divisor 2 (p / 2) (let e : 2 * (p / 2) ≡ p = omega arith in e)))
        ∙ sym (ne_eqb p 2 other)

pub odd-prime : (p : ℕ) → Prime p → (p ≡ 2 → ⊥) → p % 2 ≡ 1
odd-prime p prime other = pick (ℕ_discrete (p % 2) 0)
  where
    pick : Dec (p % 2 ≡ 0) → p % 2 ≡ 1
    pick (yes even) =
        absurd (⊎_elim (λ one. omega arith) (λ two. other (sym two)) (prime.divisor 2 (p / 2) (let e : 2 * (p / 2) ≡ p = omega arith in e)))
    pick (no odd) = omega (arith, odd)
