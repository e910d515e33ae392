-- Laws of the value of a polynomial: a greater bound of its degree, differences, a constant, the value at 0, and the
-- product with a factor 1 − x·z.
use mathlib.Core.Path.{◌≡◌, refl, sym, ap, ap₂, ◌∙◌}
use mathlib.Core.List.{[], ◌∷◌}
use Prim.Native.Nat.{ℕ, suc}
use native.Mathlib.Nat.{lt-suc_self}
use Rattle.algebra.specs.Ring.{CRing}
use Rattle.algebra.specs.Sum.{sum, pow}
use Rattle.algebra.specs.Polynomial.{Degree, eval}
use Rattle.algebra.specs.Locator.{factor}
use Rattle.algebra.proofs.Sums.{sum-zero, sum-suc, sum_head, sum_ext, sum_zeros, sum-add, sum-mul, sum-neg}
use Rattle.algebra.proofs.Powers.{pow-zero, pow-suc}
use Rattle.algebra.proofs.RingLaws.{mul-zero, zero-mul}
use Rattle.algebra.proofs.Evaluation.{eval-sum}
use Rattle.algebra.proofs.Solver.{:1, ◌:+◌, ◌:-◌, ◌:·◌, :neg, ◌:=◌, ◌:×◌:≡◌:⇒◌, solve}

module _ (R : CRing) where
  open R use {car, zero as 𝟘, one as 𝟙, add as ◌⊕◌, mul as ◌⊗◌, neg, add-zero, mul-one}

  infixl 60 ◌⊕◌
  infixl 70 ◌⊗◌
  eval-higher : (l : ℕ) (f : ℕ → car) (x : car) → Degree R l f → eval R (suc l) f x ≡ eval R l f x
  eval-higher l f x d =
      eval-sum R (suc l) f x ∙ sum-suc R (suc l) (λ i. f i ⊗ pow R x i)
      ∙ ap₂ ◌⊕◌ (sym (eval-sum R l f x))
      (ap (λ y. y ⊗ pow R x (suc l)) (d (suc l) (lt-suc_self l)) ∙ zero-mul R (pow R x (suc l)))
      ∙ add-zero (eval R l f x)

  pub eval_sub : (l : ℕ) (f g : ℕ → car) (x : car)
      → eval R l (λ i. f i ⊕ neg (g i)) x ≡ eval R l f x ⊕ neg (eval R l g x)
  eval_sub l f g x =
      eval-sum R l (λ i. f i ⊕ neg (g i)) x
      ∙ sum_ext R (suc l) _ (λ i. f i ⊗ pow R x i ⊕ neg (g i ⊗ pow R x i)) (λ i _.
      solve R (f i ∷ g i ∷ pow R x i ∷ []) (λ a b p. (a :- b) :· p := a :· p :- b :· p) tt)
      ∙ sum-add R (suc l) (λ i. f i ⊗ pow R x i) (λ i. neg (g i ⊗ pow R x i))
      ∙ ap₂ ◌⊕◌ (sym (eval-sum R l f x)) (sum-neg R (suc l) (λ i. g i ⊗ pow R x i) ∙ ap neg (sym (eval-sum R l g x)))

  -- the constant term and the other terms
  eval-head : (l : ℕ) (f : ℕ → car) (x : car)
      → eval R l f x ≡ f 0 ⊕ sum R l (λ i. f (suc i) ⊗ pow R x (suc i))
  eval-head l f x =
      eval-sum R l f x ∙ sum_head R l (λ i. f i ⊗ pow R x i)
      ∙ ap (λ y. y ⊕ sum R l (λ i. f (suc i) ⊗ pow R x (suc i))) (ap (λ y. f 0 ⊗ y) (pow-zero R x) ∙ mul-one (f 0))

  pub eval-constant : (f : ℕ → car) (x : car) → eval R 0 f x ≡ f 0
  eval-constant f x =
      eval-head 0 f x ∙ ap (λ y. f 0 ⊕ y) (sum-zero R (λ i. f (suc i) ⊗ pow R x (suc i))) ∙ add-zero (f 0)

  pub eval-at-zero : (l : ℕ) (f : ℕ → car) → eval R l f 𝟘 ≡ f 0
  eval-at-zero l f =
      eval-head l f 𝟘
      ∙ ap (λ y. f 0 ⊕ y) (sum_zeros R l (λ i. f (suc i) ⊗ pow R 𝟘 (suc i)) (λ i _.
      ap (λ y. f (suc i) ⊗ y) (pow-suc R 𝟘 i ∙ mul-zero R (pow R 𝟘 i)) ∙ mul-zero R (f (suc i))))
      ∙ add-zero (f 0)

  factor-zero : (x : car) (f : ℕ → car) → factor R x f 0 ≡ f 0
  unfolding factor
  factor-zero x f = refl

  pub factor-suc : (x : car) (f : ℕ → car) (i : ℕ) → factor R x f (suc i) ≡ f (suc i) ⊕ neg (x ⊗ f i)
  unfolding factor
  factor-suc x f i = refl

  pub eval-factor : (l : ℕ) (x : car) (f : ℕ → car) (y : car) → Degree R l f
      → eval R (suc l) (factor R x f) y ≡ (𝟙 ⊕ neg (x ⊗ y)) ⊗ eval R l f y
  eval-factor l x f y d =
      eval-head (suc l) (factor R x f) y
      ∙ ap₂ ◌⊕◌ (factor-zero x f)
      (sum_ext R (suc l) _ (λ i. f (suc i) ⊗ pow R y (suc i) ⊕ neg (x ⊗ y) ⊗ (f i ⊗ pow R y i)) (λ i _. term i)
      ∙ sum-add R (suc l) (λ i. f (suc i) ⊗ pow R y (suc i)) (λ i. neg (x ⊗ y) ⊗ (f i ⊗ pow R y i))
      ∙ ap (λ z. higher ⊕ z) (sum-mul R (suc l) (neg (x ⊗ y)) (λ i. f i ⊗ pow R y i) ∙ ap (λ z. neg (x ⊗ y) ⊗ z) (sym (eval-sum R l f y))))
      ∙ solve R (f 0 ∷ higher ∷ x ∷ y ∷ eval R l f y ∷ [])
      (λ c h a b v. :1 :× c :+ h :≡ v :⇒ c :+ (h :+ :neg (a :· b) :· v) := (:1 :- a :· b) :· v) tt
      (sym (eval-head (suc l) f y) ∙ eval-higher l f y d)
    where
      higher : car
      higher = sum R (suc l) (λ i. f (suc i) ⊗ pow R y (suc i))

      term : (i : ℕ) → factor R x f (suc i) ⊗ pow R y (suc i) ≡ f (suc i) ⊗ pow R y (suc i) ⊕ neg (x ⊗ y) ⊗ (f i ⊗ pow R y i)
      term i =
          ap₂ ◌⊗◌ (factor-suc x f i) (pow-suc R y i)
          ∙ solve R (f (suc i) ∷ f i ∷ x ∷ y ∷ pow R y i ∷ [])
          (λ u v a b p. (u :- a :· v) :· (p :· b) := u :· (p :· b) :+ :neg (a :· b) :· (v :· p)) tt
          ∙ ap (λ z. f (suc i) ⊗ z ⊕ neg (x ⊗ y) ⊗ (f i ⊗ pow R y i)) (sym (pow-suc R y i))
