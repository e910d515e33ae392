-- A multiple of a power by half of its exponent: the same multiple of the power of the square, the multiple taken once more by the base where the
-- exponent is odd.
use mathlib.Core.Path.{◌≡◌, sym, ap, ◌∙◌}
use Prim.Native.Nat.{ℕ, zero, suc, ◌+◌, ◌*◌, ◌/◌, ◌%◌, ◌^◌, ◌<◌}
use native.Mathlib.Nat.{pow-zero, pow-suc, mul_assoc, mul_comm, mul-one, mod-eq_of_lt}
use native.Mathlib.Omega.{arith}
use Rattle.field.specs.Residue.{times, power}
use Rattle.field.proofs.Remainders.{mod-mul-mod, mul-mod-mod, pow-mod}

pub zeroth_power : (p s a e : ℕ) → e ≡ 0 → s < p → s ≡ times p s (power p a e)
zeroth_power p s a e none less = rw (none, pow-zero) (sym (mul-mod-mod s 1 p ∙ rw mul-one (mod-eq_of_lt less)))

square_power : (a k : ℕ) → (a * a) ^ k ≡ a ^ (k + k)
square_power a zero = pow-zero (a * a) ∙ sym (pow-zero a)
square_power a (suc k) =
    pow-suc (a * a) k ∙ ap (λ (x : ℕ). x * (a * a)) (square_power a k) ∙ sym (mul_assoc (a ^ (k + k)) a a)
    ∙ ap (λ (x : ℕ). x * a) (sym (pow-suc a (k + k))) ∙ sym (pow-suc a (suc (k + k)))
    ∙ ap (λ (x : ℕ). a ^ x) (let e : suc (suc (k + k)) ≡ suc k + suc k = omega arith in e)

module _ (p s a e square r : ℕ) (squared : square ≡ times p a a) where
  halved : power p square (e / 2) ≡ power p a (e / 2 + e / 2)
  halved = ap (λ (x : ℕ). power p x (e / 2)) squared ∙ pow-mod (a * a) (e / 2) p ∙ ap (λ (x : ℕ). x % p) (square_power a (e / 2))

  pub even_power : e % 2 ≡ 0 → r ≡ times p s (power p square (e / 2)) → r ≡ times p s (power p a e)
  even_power even more =
      more ∙ ap (times p s) halved ∙ ap (λ (x : ℕ). times p s (power p a x)) (let whole : e / 2 + e / 2 ≡ e = omega arith in whole)

  pub odd_power : (e % 2 ≡ 0 → ⊥) → (multiple : ℕ) → multiple ≡ times p s a → r ≡ times p multiple (power p square (e / 2)) → r ≡ times p s (power p a e)
  odd_power odd multiple taken more =
      more ∙ ap (λ (x : ℕ). times p x (power p square (e / 2))) taken ∙ ap (times p (times p s a)) halved
      ∙ mod-mul-mod (s * a) p (power p a (e / 2 + e / 2)) ∙ mul-mod-mod (s * a) (a ^ (e / 2 + e / 2)) p
      ∙ ap (λ (x : ℕ). x % p) (mul_assoc s a (a ^ (e / 2 + e / 2)) ∙ ap (λ (x : ℕ). s * x) (mul_comm a (a ^ (e / 2 + e / 2)) ∙ sym (pow-suc a (e / 2 + e / 2))))
      ∙ sym (mul-mod-mod s (a ^ suc (e / 2 + e / 2)) p)
      ∙ ap (λ (x : ℕ). times p s (power p a x)) (let whole : suc (e / 2 + e / 2) ≡ e = omega arith in whole)
