-- Laws of powers: clauses as equations, sums and products of exponents, powers of products and of one.
use mathlib.Core.Path.{◌≡◌, refl, sym, ap, ap₂, ◌∙◌}
use Prim.Native.Nat.{ℕ, zero, suc, ◌+◌, ◌*◌}
use native.Mathlib.Nat.{add-zero as n-add-zero, add-suc, mul-zero as n-mul-zero, mul-suc}
use Rattle.algebra.specs.Ring.{CRing}
use Rattle.algebra.specs.Sum.{pow}
use Rattle.algebra.proofs.RingLaws.{mul_swap_inner}

module _ (R : CRing) where
  open R use {car, one as 𝟙, mul as ◌⊗◌, mul_assoc, mul-one}

  infixl 70 ◌⊗◌
  pub pow-zero : (a : car) → pow R a 0 ≡ 𝟙
  unfolding pow
  pow-zero a = refl

  pub pow-suc : (a : car) (n : ℕ) → pow R a (suc n) ≡ pow R a n ⊗ a
  unfolding pow
  pow-suc a n = refl

  pub pow-add : (a : car) (m n : ℕ) → pow R a (m + n) ≡ pow R a m ⊗ pow R a n
  pow-add a m zero = ap (pow R a) (n-add-zero m) ∙ sym (ap (λ x. pow R a m ⊗ x) (pow-zero a) ∙ mul-one (pow R a m))
  pow-add a m (suc n) =
      ap (pow R a) (add-suc m n) ∙ pow-suc a (m + n) ∙ ap (λ x. x ⊗ a) (pow-add a m n)
      ∙ mul_assoc (pow R a m) (pow R a n) a ∙ ap (λ x. pow R a m ⊗ x) (sym (pow-suc a n))

  pub pow-one : (n : ℕ) → pow R 𝟙 n ≡ 𝟙
  pow-one zero = pow-zero 𝟙
  pow-one (suc n) = pow-suc 𝟙 n ∙ mul-one (pow R 𝟙 n) ∙ pow-one n

  pub pow-mul : (a b : car) (n : ℕ) → pow R (a ⊗ b) n ≡ pow R a n ⊗ pow R b n
  pow-mul a b zero = pow-zero (a ⊗ b) ∙ sym (ap₂ ◌⊗◌ (pow-zero a) (pow-zero b) ∙ mul-one 𝟙)
  pow-mul a b (suc n) =
      pow-suc (a ⊗ b) n ∙ ap (λ x. x ⊗ (a ⊗ b)) (pow-mul a b n)
      ∙ mul_swap_inner R (pow R a n) (pow R b n) a b ∙ sym (ap₂ ◌⊗◌ (pow-suc a n) (pow-suc b n))

  pub pow-pow : (a : car) (m n : ℕ) → pow R a (m * n) ≡ pow R (pow R a m) n
  pow-pow a m zero = ap (pow R a) (n-mul-zero m) ∙ pow-zero a ∙ sym (pow-zero (pow R a m))
  pow-pow a m (suc n) =
      ap (pow R a) (mul-suc m n) ∙ pow-add a (m * n) m ∙ ap (λ x. x ⊗ pow R a m) (pow-pow a m n) ∙ sym (pow-suc (pow R a m) n)
