-- From numbers to the field of residues modulo p and back: `res n` is the residue of n, `value` its number. Each operation of
-- `Residue` on numbers, and `total`, is the field's own.
use mathlib.Core.Path.{◌≡◌, refl, sym, ap, ◌∙◌}
use mathlib.Core.Logic.{◌↔◌}
use Prim.Native.Nat.{ℕ, zero, suc, ◌+◌, ◌-◌, ◌*◌, ◌%◌, ◌^◌, ◌≤◌, ◌<◌}
use native.Mathlib.Nat.{mod-mod, add-mod, add-mod_right, add-sub_assoc, pow-zero, pow-suc, sub-add_cancel, zero-mod}
use native.Mathlib.Omega.{arith}
use Rattle.algebra.specs.Ring.{CRing}
use Rattle.algebra.specs.Sum.{sum, pow}
use Rattle.algebra.proofs.Powers.{pow-zero as ring-pow-zero, pow-suc as ring-pow-suc}
use Rattle.algebra.proofs.Sums.{sum-zero, sum-suc}
use Rattle.field.specs.Prime.{Prime}
use Rattle.field.specs.Residue.{minus, times, power, inverse, quotient}
use Rattle.lists.specs.Total.{total}
use Rattle.field.proofs.Instance.{residue, residue-ring, residues, same_element, own_remainder}
use Rattle.field.proofs.Remainders.{mod-mul-mod, mul-mod-mod, pow-mod}
use Rattle.lists.proofs.Totals.{total-zero, total-suc}

module _ (p : ℕ) (prime : Prime p) where
  abbrev R : CRing
  R = (residues p prime).ring

  open R use {car, zero as 𝟘, one as 𝟙, add as ◌⊕◌, mul as ◌⊗◌, neg, add_assoc, add-neg, add-zero}
  open residues p prime use {inv}

  infixl 60 ◌⊕◌
  infixl 70 ◌⊗◌
  unfoldable pub res : ℕ → (residues p prime).ring.car
  unfolding residues residue-ring
  res n = residue p prime n

  unfoldable pub value : (residues p prime).ring.car → ℕ
  unfolding residues residue-ring
  value a = a.0

  value-res : (n : ℕ) → value (res n) ≡ n % p
  unfolding res value residues residue-ring
  value-res n = refl

  pub value-less : (a : car) → value a < p
  unfolding value residues residue-ring
  value-less a = a.1

  pub res-value : (a : car) → res (value a) ≡ a
  unfolding res value residues residue-ring
  res-value a = same_element p prime (own_remainder p prime a)

  -- equal residues are equal remainders
  pub res_same : (a b : ℕ) → (res a ≡ res b) ↔ (a % p ≡ b % p)
  res_same a b =
      (λ e. sym (value-res a) ∙ ap value e ∙ value-res b, λ e. sym (res-value (res a)) ∙ ap res (value-res a ∙ e ∙ sym (value-res b)) ∙ res-value (res b))

  pub res-mod : (n : ℕ) → res (n % p) ≡ res n
  res-mod n = (res_same (n % p) n).1 (mod-mod n p)

  pub res-zero : res 0 ≡ 𝟘
  unfolding res residues residue-ring
  res-zero = refl

  pub res_one : res 1 ≡ 𝟙
  unfolding res residues residue-ring
  res_one = refl

  pub res-is-zero : (n : ℕ) → (res n ≡ 𝟘) ↔ (n % p ≡ 0)
  res-is-zero n =
      (λ e. (res_same n 0).0 (e ∙ sym res-zero) ∙ zero-mod p, λ e. (res_same n 0).1 (e ∙ sym (zero-mod p)) ∙ res-zero)

  pub res-add : (a b : ℕ) → res (a + b) ≡ res a ⊕ res b
  unfolding res residues residue-ring
  res-add a b = same_element p prime (add-mod a b p)

  pub res-mul : (a b : ℕ) → res (a * b) ≡ res a ⊗ res b
  unfolding res residues residue-ring
  res-mul a b = same_element p prime (sym (mod-mul-mod a p (b % p) ∙ mul-mod-mod a b p))

  pub res-sub : (a b : ℕ) → b ≤ a → res (a - b) ≡ res a ⊕ neg (res b)
  res-sub a b le =
      let whole = ap res (sym (sub-add_cancel le)) ∙ res-add (a - b) b in
      sym (ap (λ x. x ⊕ neg (res b)) whole ∙ add_assoc (res (a - b)) (res b) (neg (res b)) ∙ ap (λ x. res (a - b) ⊕ x) (add-neg (res b))
      ∙ add-zero (res (a - b)))

  pub res-pow : (a e : ℕ) → res (a ^ e) ≡ pow R (res a) e
  res-pow a zero = ap res (pow-zero a) ∙ res_one ∙ sym (ring-pow-zero R (res a))
  res-pow a (suc e) =
      ap res (pow-suc a e) ∙ res-mul (a ^ e) a ∙ ap (λ x. x ⊗ res a) (res-pow a e) ∙ sym (ring-pow-suc R (res a) e)

  pub res-total : (n : ℕ) (f : ℕ → ℕ) → res (total n f) ≡ sum R n (λ k. res (f k))
  res-total zero f = ap res (total-zero f) ∙ res-zero ∙ sym (sum-zero R (λ k. res (f k)))
  res-total (suc n) f =
      ap res (total-suc n f) ∙ res-add (total n f) (f n) ∙ ap (λ x. x ⊕ res (f n)) (res-total n f) ∙ sym (sum-suc R n (λ k. res (f k)))

  -- ---- the operations on residues

  pub res-minus : (a b : ℕ) → b ≤ p → res (minus p a b) ≡ res a ⊕ neg (res b)
  res-minus a b le =
      let fits : b ≤ a + p = omega arith in
      res-mod (a + (p - b)) ∙ ap res (sym (add-sub_assoc le a)) ∙ res-sub (a + p) b fits
      ∙ ap (λ x. x ⊕ neg (res b)) ((res_same (a + p) a).1 (add-mod_right a p))

  pub res-times : (a b : ℕ) → res (times p a b) ≡ res a ⊗ res b
  res-times a b = res-mod (a * b) ∙ res-mul a b

  pub res-power : (a e : ℕ) → res (power p a e) ≡ pow R (res a) e
  res-power a e = res-mod (a ^ e) ∙ res-pow a e

  pub res-inverse : (a : ℕ) → res (inverse p a) ≡ inv (res a)
  unfolding res residues residue-ring
  res-inverse a = same_element p prime (mod-mod (a ^ (p - 2)) p ∙ sym (pow-mod a (p - 2) p))

  pub res-quotient : (a b : ℕ) → res (quotient p a b) ≡ res a ⊗ inv (res b)
  res-quotient a b = res-times a (inverse p b) ∙ ap (λ x. res a ⊗ x) (res-inverse b)
