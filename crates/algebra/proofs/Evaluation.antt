-- A polynomial times a sequence of power sums is again a sequence of power sums, each weight multiplied by the
-- polynomial's value at the inverse of its base. So a polynomial that vanishes at these inverses generates the sequence.
-- Power sums from another exponent on are power sums with other weights: e i · X i ^ b for e i.
use mathlib.Core.Path.{◌≡◌, refl, sym, ap, ◌∙◌}
use mathlib.Core.List.{[], ◌∷◌}
use Prim.Native.Nat.{ℕ, suc, ◌+◌, ◌-◌, ◌≤◌, ◌<◌}
use native.Mathlib.Omega.{arith}
use Rattle.algebra.specs.Ring.{CRing}
use Rattle.algebra.specs.Sum.{sum, pow}
use Rattle.algebra.specs.Polynomial.{Degree, conv, eval}
use Rattle.algebra.proofs.Sums.{sum_ext, sum_zeros, sum-mul, sum_swap}
use Rattle.algebra.proofs.RingLaws.{mul-zero, zero-mul}
use Rattle.algebra.proofs.Powers.{pow-add, pow-mul, pow-one}
use Rattle.algebra.proofs.Solver.{◌:·◌, ◌:=◌, solve}
use Rattle.algebra.proofs.Convolution.{conv_degree}

module _ (R : CRing) where
  open R use {car, zero as 𝟘, one as 𝟙, mul as ◌⊗◌, mul_assoc, mul-one}

  infixl 70 ◌⊗◌
  pub eval-sum : (l : ℕ) (f : ℕ → car) (x : car) → eval R l f x ≡ sum R (suc l) (λ i. f i ⊗ pow R x i)
  unfolding eval
  eval-sum l f x = refl

  pub pow-inverse : (x y : car) → x ⊗ y ≡ 𝟙 → (n : ℕ) → pow R x n ⊗ pow R y n ≡ 𝟙
  pow-inverse x y e n = sym (pow-mul R x y n) ∙ ap (λ z. pow R z n) e ∙ pow-one R n

  pow-sub : (x y : car) → x ⊗ y ≡ 𝟙 → (j k : ℕ) → k ≤ j → pow R x (j - k) ≡ pow R x j ⊗ pow R y k
  pow-sub x y e j k h =
      sym (mul-one (pow R x (j - k))) ∙ ap (λ z. pow R x (j - k) ⊗ z) (sym (pow-inverse x y e k))
      ∙ sym (mul_assoc (pow R x (j - k)) (pow R x k) (pow R y k))
      ∙ ap (λ z. z ⊗ pow R y k)
      (sym (pow-add R x (j - k) k) ∙ ap (pow R x) (let q : j - k + k ≡ j = omega arith in q))

  module _ (m l : ℕ) (e X Y f S : ℕ → car) (inverse : (i : ℕ) → i < m → X i ⊗ Y i ≡ 𝟙) (degree : Degree R l f)
      (j : ℕ) (long : l ≤ j) (sums : (k : ℕ) → j ≤ k + l → k ≤ j → S k ≡ sum R m (λ i. e i ⊗ pow R (X i) k)) where
    pub evaluation : conv R f S j ≡ sum R m (λ i. e i ⊗ eval R l f (Y i) ⊗ pow R (X i) j)
    evaluation =
        conv_degree R l f S j degree long
        ∙ sum_ext R (suc l) (λ k. f k ⊗ S (j - k)) (λ k. sum R m (λ i. f k ⊗ (e i ⊗ pow R (X i) (j - k))))
        (λ k h. ap (λ z. f k ⊗ z) (sums (j - k) (omega arith) (omega arith))
        ∙ sym (sum-mul R m (f k) (λ i. e i ⊗ pow R (X i) (j - k))))
        ∙ sum_swap R (suc l) m (λ k i. f k ⊗ (e i ⊗ pow R (X i) (j - k)))
        ∙ sum_ext R m (λ i. sum R (suc l) (λ k. f k ⊗ (e i ⊗ pow R (X i) (j - k))))
        (λ i. e i ⊗ eval R l f (Y i) ⊗ pow R (X i) j) (λ i h. column i h)
      where
        term : (i k : ℕ) → i < m → k < suc l
            → f k ⊗ (e i ⊗ pow R (X i) (j - k)) ≡ (e i ⊗ pow R (X i) j) ⊗ (f k ⊗ pow R (Y i) k)
        term i k h g =
            ap (λ z. f k ⊗ (e i ⊗ z)) (pow-sub (X i) (Y i) (inverse i h) j k (omega arith))
            ∙ solve R (f k ∷ e i ∷ pow R (X i) j ∷ pow R (Y i) k ∷ []) (λ a c x y. a :· (c :· (x :· y)) := (c :· x) :· (a :· y)) tt

        column : (i : ℕ) → i < m
            → sum R (suc l) (λ k. f k ⊗ (e i ⊗ pow R (X i) (j - k))) ≡ e i ⊗ eval R l f (Y i) ⊗ pow R (X i) j
        column i h =
            sum_ext R (suc l) (λ k. f k ⊗ (e i ⊗ pow R (X i) (j - k)))
            (λ k. (e i ⊗ pow R (X i) j) ⊗ (f k ⊗ pow R (Y i) k)) (λ k g. term i k h g)
            ∙ sum-mul R (suc l) (e i ⊗ pow R (X i) j) (λ k. f k ⊗ pow R (Y i) k)
            ∙ ap (λ z. (e i ⊗ pow R (X i) j) ⊗ z) (sym (eval-sum l f (Y i)))
            ∙ solve R (e i ∷ pow R (X i) j ∷ eval R l f (Y i) ∷ []) (λ c x a. (c :· x) :· a := c :· a :· x) tt

    pub roots_generate : ((i : ℕ) → i < m → eval R l f (Y i) ≡ 𝟘) → conv R f S j ≡ 𝟘
    roots_generate root =
        evaluation
        ∙ sum_zeros R m (λ i. e i ⊗ eval R l f (Y i) ⊗ pow R (X i) j)
        (λ i h. ap (λ z. z ⊗ pow R (X i) j) (ap (λ z. e i ⊗ z) (root i h) ∙ mul-zero R (e i)) ∙ zero-mul R (pow R (X i) j))
