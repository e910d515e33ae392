-- Euclid's lemma: a prime divides a product only if it divides a factor. By the remainder r of p modulo a, which is smaller than a
-- and not 0: if p divides a · b, it divides r · b too.
use mathlib.Core.Path.{◌≡◌, refl, sym, ap, ◌∙◌}
use Prim.Native.Nat.{ℕ, zero, suc, ◌+◌, ◌-◌, ◌*◌, ◌/◌, ◌%◌, ◌≤◌, ◌<◌}
use native.Mathlib.Nat.{add-mul, mul_assoc, add_comm, mul-mod_right, div-add-mod', mod-lt, one-mul, add-sub_of_le, mul-add}
use native.Mathlib.Decide.{dec_le}
use native.Mathlib.Omega.{arith}
use Rattle.field.specs.Prime.{Prime}
use Rattle.field.proofs.PrimeTest.{prime-undivided}
use Rattle.field.proofs.Remainders.{mod-mul-mod, mod-add-cancel, mod-add-zero, mod-mul-zero}

module _ (p : ℕ) (prime : Prime p) where
  -- p divides r · b, where p = q · a + r
  remainder_divides : (a b : ℕ) → (a * b) % p ≡ 0 → (p % a * b) % p ≡ 0
  remainder_divides a b z =
      let parts : p / a * (a * b) + p % a * b ≡ p * b = rw (← mul_assoc, ← add-mul, div-add-mod') refl in
      let sum : (p % a * b + p / a * (a * b)) % p ≡ 0 = rw (add_comm, parts) (mul-mod_right p b) in
      sym (mod-add-zero (p % a * b) (p / a * (a * b)) p (mod-mul-zero (p / a) (a * b) p z)) ∙ sum

  -- by induction on a bound of a
  below : (n a b : ℕ) → a ≤ n → 0 < a → a < p → (a * b) % p ≡ 0 → b % p ≡ 0
  below zero a b le pos less z = absurd (let f : ⊥ = omega arith in f)
  below (suc n) zero b le pos less z = absurd (let f : ⊥ = omega arith in f)
  below (suc n) (suc zero) b le pos less z = rw (one-mul b) at z
  below (suc n) (suc (suc a)) b le pos less z =
      let d = suc (suc a) in
      let small : p % d < d = mod-lt p pos in
      let some = prime-undivided p prime d (omega arith) less in
      below n (p % d) b (omega arith) (omega arith) (omega arith) (remainder_divides d b z)

  pub euclid : (a b : ℕ) → (a % p ≡ 0 → ⊥) → (a * b) % p ≡ 0 → b % p ≡ 0
  euclid a b some z =
      let pos : 0 < p = omega (arith, prime.two_or_more) in
      below p (a % p) b (omega (arith, mod-lt a pos)) (omega arith) (mod-lt a pos) (mod-mul-mod a p b ∙ z)

  -- a factor that p does not divide may be cancelled
  cancel-le : (a b c : ℕ) → (a % p ≡ 0 → ⊥) → b ≤ c → (a * b) % p ≡ (a * c) % p → b % p ≡ c % p
  cancel-le a b c some le e =
      let pos : 0 < p = omega (arith, prime.two_or_more) in
      let parts : a * c ≡ a * b + a * (c - b) = rw (← mul-add, add-sub_of_le le) refl in
      let rest = euclid a (c - b) some (mod-add-cancel (a * b) (a * (c - b)) p pos (ap (λ (x : ℕ). x % p) (sym parts) ∙ sym e)) in
      sym (mod-add-zero b (c - b) p rest) ∙ ap (λ (x : ℕ). x % p) (add-sub_of_le le)

  pub cancel : (a b c : ℕ) → (a % p ≡ 0 → ⊥) → (a * b) % p ≡ (a * c) % p → b % p ≡ c % p
  cancel a b c some e = pick (dec_le b c)
    where
      pick : Dec (b ≤ c) → b % p ≡ c % p
      pick (yes le) = cancel-le a b c some le e
      pick (no gt) = sym (cancel-le a c b some (let le : c ≤ b = omega arith in le) (sym e))
