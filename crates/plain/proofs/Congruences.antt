-- Numbers that leave the same remainder: their sums and products do too, and a term may be cancelled. Modulo a prime a factor that is
-- not 0 may be cancelled, and b + a·v is 0 for some residue v.
use Rattle.std.proofs.Common.{◌≡◌, ℕ, zero, suc, ◌+◌, ◌-◌, ◌*◌, ◌%◌, ◌<◌, sym, refl, ap, ◌∙◌, add-zero, mod-eq_of_lt, mul_comm, add_comm, one-mul, zero-mul, arith}
use native.Mathlib.Nat.{mul-mod_left}
use Rattle.field.proofs.Euclid.{cancel, euclid}
use Rattle.field.proofs.Fermat.{times-inverse}
use Rattle.field.specs.Prime.{Prime}
use Rattle.field.specs.Residue.{inverse}
use Rattle.plain.proofs.Remainders.{rem-zero, rem-positive, rem_lt, rem-none, rem-add, rem-mul, rem-add-mul}
use Rattle.plain.specs.Plain.{rem}

pub rem-small : (x p : ℕ) → x < p → rem x p ≡ x
rem-small x p less = sym (rem-positive x p (omega arith)) ∙ mod-eq_of_lt less

module _ (p : ℕ) where
  pub equal : {a b : ℕ} → a ≡ b → rem a p ≡ rem b p
  equal e = ap (λ (x : ℕ). rem x p) e

  pub same_sum : (a b c d : ℕ) → rem a p ≡ rem b p → rem c p ≡ rem d p → rem (a + c) p ≡ rem (b + d) p
  same_sum a b c d e h = left a b c e ∙ equal (add_comm b c) ∙ left c d b h ∙ equal (add_comm d b)
    where
      left : (x y z : ℕ) → rem x p ≡ rem y p → rem (x + z) p ≡ rem (y + z) p
      left x y z q = sym (rem-add x z p) ∙ ap (λ (w : ℕ). rem (w + z) p) q ∙ rem-add y z p

  pub same-product : (a b c : ℕ) → rem a p ≡ rem b p → rem (a * c) p ≡ rem (b * c) p
  same-product a b c e = sym (rem-mul a c p) ∙ ap (λ (x : ℕ). rem (x * c) p) e ∙ rem-mul b c p

  pub zero-product : (a c : ℕ) → rem a p ≡ 0 → rem (a * c) p ≡ 0
  zero-product a c e = same-product a 0 c (e ∙ sym (rem-none p)) ∙ equal (zero-mul c) ∙ rem-none p

  pub zero-added : (a b : ℕ) → rem b p ≡ 0 → rem (a + b) p ≡ rem a p
  zero-added a b e = same_sum a a b 0 refl (e ∙ sym (rem-none p)) ∙ equal (add-zero a)

-- a times p − 1 is the negative of a
negative : (p a : ℕ) → rem (a + a * (p - 1)) p ≡ 0
negative zero a = rem-zero (a + a * (0 - 1))
negative (suc p) a =
    ap (λ (x : ℕ). rem (a + a * x) (suc p)) (let z : suc p - 1 ≡ p = omega arith in z)
    ∙ equal (suc p) (let z : a + a * p ≡ a * suc p = omega arith in z) ∙ sym (rem-positive (a * suc p) (suc p) (omega arith)) ∙ mul-mod_left a (suc p)

pub cancel-term : (p a b c : ℕ) → rem (a + b) p ≡ rem (a + c) p → rem b p ≡ rem c p
cancel-term p a b c e = sym (back b) ∙ same_sum p (a + b) (a + c) (a * (p - 1)) (a * (p - 1)) e refl ∙ back c
  where
    back : (x : ℕ) → rem (a + x + a * (p - 1)) p ≡ rem x p
    back x = equal p (let z : a + x + a * (p - 1) ≡ x + (a + a * (p - 1)) = omega arith in z) ∙ zero-added p x (a + a * (p - 1)) (negative p a)

module _ (p : ℕ) (prime : Prime p) where
  by_division : (x : ℕ) → x % p ≡ rem x p
  by_division x = rem-positive x p (omega (arith, prime.two_or_more))

  undivided : (a : ℕ) → (rem a p ≡ 0 → ⊥) → a % p ≡ 0 → ⊥
  undivided a some z = some (sym (by_division a) ∙ z)

  pub cancel-factor : (a b c : ℕ) → (rem a p ≡ 0 → ⊥) → rem (a * b) p ≡ rem (a * c) p → rem b p ≡ rem c p
  cancel-factor a b c some e =
      sym (by_division b) ∙ cancel p prime a b c (undivided a some) (by_division (a * b) ∙ e ∙ sym (by_division (a * c))) ∙ by_division c

  pub zero-factor : (a b : ℕ) → (rem b p ≡ 0 → ⊥) → rem (a * b) p ≡ 0 → rem a p ≡ 0
  zero-factor a b some e = sym (by_division a) ∙ euclid p prime b a (undivided b some) (by_division (b * a) ∙ equal p (mul_comm b a) ∙ e)

  -- v is −b / a
  pub solved-by : (a b : ℕ) → (rem a p ≡ 0 → ⊥) → (v : ℕ) × (v < p) × (rem (b + a * v) p ≡ 0)
  solved-by a b some = (rem (minus * over) p, rem_lt (minus * over) p (omega (arith, prime.two_or_more)), solved)
    where
      minus : ℕ
      minus = b * (p - 1)

      over : ℕ
      over = inverse p a

      inverted : rem (a * over) p ≡ rem 1 p
      inverted = sym (by_division (a * over)) ∙ times-inverse p prime a (undivided a some) ∙ sym (rem-small 1 p prime.two_or_more)

      solved : rem (b + a * rem (minus * over) p) p ≡ 0
      solved =
          rem-add-mul b a (minus * over) p ∙ equal p (let z : b + a * (minus * over) ≡ b + a * over * minus = omega arith in z)
          ∙ same_sum p b b (a * over * minus) (1 * minus) refl (same-product p (a * over) 1 minus inverted)
          ∙ equal p (ap (λ (x : ℕ). b + x) (one-mul minus)) ∙ negative p b
