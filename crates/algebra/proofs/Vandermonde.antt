-- Vandermonde: power sums of m distinct elements X i with weights e i, at m exponents that follow one another from any
-- start b, determine the weights (unique) and take every value (exist). From 0 on, an element may be 0.
-- Both by induction on m: the sum at j + 1 less X m times the sum at j has the weights e i · (X i − X m), one fewer.
use mathlib.Core.Path.{◌≡◌, sym, ap, ap₂, ◌∙◌}
use mathlib.Core.Logic.{◌≢◌, ite, if_pos, if_neg}
use mathlib.Core.List.{[], ◌∷◌}
use Prim.Native.Nat.{ℕ, zero, suc, ◌+◌, ◌<◌}
use native.Mathlib.Nat.{not-suc-le-zero, lt-suc_self, le_step}
use native.Mathlib.Decide.{dec_lt}
use native.Mathlib.Omega.{arith}
use Rattle.algebra.specs.Ring.{Field}
use Rattle.algebra.specs.Sum.{sum, pow}
use Rattle.algebra.specs.Locator.{Distinct, Nonzero}
use Rattle.algebra.proofs.Sums.{sum-suc, sum_ext, sum_zeros, sum-add, sum-mul}
use Rattle.algebra.proofs.Powers.{pow-zero, pow-suc, pow-add}
use Rattle.algebra.proofs.RingLaws.{zero-add, zero-mul}
use Rattle.algebra.proofs.FieldLaws.{no-zero_divisors, difference_nonzero, divide_mul, power-nonzero}
use Rattle.algebra.proofs.Solver.{:0, :1, ◌:+◌, ◌:-◌, ◌:·◌, :neg, ◌:=◌, ◌:×◌:≡◌:⇒◌, solve}

module _ (F : Field) where
  open F use {ring as R, inv}
  open R use {car, zero as 𝟘, add as ◌⊕◌, mul as ◌⊗◌, neg, mul_assoc, mul_comm, mul-one}

  infixl 60 ◌⊕◌
  infixl 70 ◌⊗◌
  abbrev power-sum : ℕ → (ℕ → car) → (ℕ → car) → ℕ → car
  power-sum m X e j = sum R m (λ i. e i ⊗ pow R (X i) j)

  -- the weights that are left when the last element's part is taken off
  abbrev rest : ℕ → (ℕ → car) → (ℕ → car) → ℕ → car
  rest m X e i = e i ⊗ (X i ⊕ neg (X m))

  power-sum-step : (m : ℕ) (X e : ℕ → car) (j : ℕ)
      → power-sum (suc m) X e (suc j) ≡ power-sum m X (rest m X e) j ⊕ X m ⊗ power-sum (suc m) X e j
  power-sum-step m X e j =
      sum_ext R (suc m) _ (λ i. rest m X e i ⊗ pow R (X i) j ⊕ X m ⊗ (e i ⊗ pow R (X i) j)) (λ i _. term i)
      ∙ sum-add R (suc m) (λ i. rest m X e i ⊗ pow R (X i) j) (λ i. X m ⊗ (e i ⊗ pow R (X i) j))
      ∙ ap₂ ◌⊕◌ (sum-suc R m (λ i. rest m X e i ⊗ pow R (X i) j) ∙ last) (sum-mul R (suc m) (X m) (λ i. e i ⊗ pow R (X i) j))
    where
      term : (i : ℕ) → e i ⊗ pow R (X i) (suc j) ≡ rest m X e i ⊗ pow R (X i) j ⊕ X m ⊗ (e i ⊗ pow R (X i) j)
      term i =
          ap (λ x. e i ⊗ x) (pow-suc R (X i) j)
          ∙ solve R (e i ∷ X i ∷ X m ∷ pow R (X i) j ∷ []) (λ w x y p. w :· (p :· x) := w :· (x :- y) :· p :+ y :· (w :· p)) tt

      last : power-sum m X (rest m X e) j ⊕ rest m X e m ⊗ pow R (X m) j ≡ power-sum m X (rest m X e) j
      last =
          solve R (power-sum m X (rest m X e) j ∷ e m ∷ X m ∷ pow R (X m) j ∷ []) (λ s w x p. s :+ w :· (x :- x) :· p := s) tt

  power-sum-start : (m : ℕ) (X e : ℕ → car) (b j : ℕ) → power-sum m X e (b + j) ≡ power-sum m X (λ i. e i ⊗ pow R (X i) b) j
  power-sum-start m X e b j = sum_ext R m _ _ (λ i _. ap (λ x. e i ⊗ x) (pow-add R (X i) b j) ∙ sym (mul_assoc _ _ _))

  apart : (m : ℕ) (X : ℕ → car) → Distinct R (suc m) X → (i : ℕ) → i < m → X i ⊕ neg (X m) ≢ 𝟘
  apart m X d i h =
      difference_nonzero F (X i) (X m) (λ e. let q : i ≡ m = d i m (le_step h) (lt-suc_self m) e in omega arith)

  unique_step : (m : ℕ) (X e : ℕ → car) → Distinct R (suc m) X → power-sum (suc m) X e 0 ≡ 𝟘
      → ((i : ℕ) → i < m → rest m X e i ≡ 𝟘) → (i : ℕ) → i < suc m → e i ≡ 𝟘
  unique_step m X e d z r i h = elim (dec_lt i m) [ yes l ↦ before i l | no n ↦ ap e (omega arith) ∙ last ]
    where
      before : (i : ℕ) → i < m → e i ≡ 𝟘
      before i l = no-zero_divisors F (X i ⊕ neg (X m)) (e i) (apart m X d i l) (mul_comm _ _ ∙ r i l)

      last : e m ≡ 𝟘
      last =
          sym (mul-one (e m)) ∙ ap (λ x. e m ⊗ x) (sym (pow-zero R (X m))) ∙ sym (zero-add R _)
          ∙ ap (λ x. x ⊕ e m ⊗ pow R (X m) 0)
          (sym (sum_zeros R m (λ i. e i ⊗ pow R (X i) 0) (λ i l. ap (λ x. x ⊗ pow R (X i) 0) (before i l) ∙ zero-mul R _)))
          ∙ sym (sum-suc R m (λ i. e i ⊗ pow R (X i) 0)) ∙ z

  fewer : (m : ℕ) (X : ℕ → car) → Distinct R (suc m) X → Distinct R m X
  fewer m X d i j hi hj e = d i j (le_step hi) (le_step hj) e

  weights_unique_from-zero : (m : ℕ) (X e : ℕ → car) → Distinct R m X → ((j : ℕ) → j < m → power-sum m X e j ≡ 𝟘)
      → (i : ℕ) → i < m → e i ≡ 𝟘
  weights_unique_from-zero zero X e d z = λ i h. absurd (not-suc-le-zero h)
  weights_unique_from-zero (suc m) X e d z =
      unique_step m X e d (z 0 (omega arith))
      (weights_unique_from-zero m X (rest m X e) (fewer m X d) (λ j h.
      solve R (power-sum (suc m) X e (suc j) ∷ power-sum m X (rest m X e) j ∷ X m ∷ power-sum (suc m) X e j ∷ [])
      (λ t p x u. :neg :1 :× t :≡ p :+ x :· u :⇒ :1 :× t :≡ :0 :⇒ :neg x :× u :≡ :0 :⇒ p := :0) tt
      (power-sum-step m X e j) (z (suc j) (omega arith)) (z j (le_step h))))

  module _ (m : ℕ) (X s e : ℕ → car) (distinct : Distinct R (suc m) X)
      (solved : (j : ℕ) → j < m → power-sum m X e j ≡ s (suc j) ⊕ neg (X m ⊗ s j)) where
    front : ℕ → car
    front i = e i ⊗ inv (X i ⊕ neg (X m))

    longer : ℕ → car
    longer i = ite (dec_lt i m) (front i) (s 0 ⊕ neg (sum R m front))

    longer-front : (i : ℕ) → i < m → longer i ≡ front i
    unfolding longer
    longer-front i h = if_pos (dec_lt i m) h _ _

    longer-last : longer m ≡ s 0 ⊕ neg (sum R m front)
    unfolding longer
    longer-last = if_neg (dec_lt m m) (omega arith) _ _

    longer-rest : (i : ℕ) → i < m → rest m X longer i ≡ e i
    unfolding front
    longer-rest i h =
        ap (λ x. x ⊗ (X i ⊕ neg (X m))) (longer-front i h)
        ∙ divide_mul F (e i) (X i ⊕ neg (X m)) (apart m X distinct i h)

    longer_solves : (j : ℕ) → j < suc m → power-sum (suc m) X longer j ≡ s j
    longer_solves zero h =
        sum_ext R (suc m) _ longer (λ i _. ap (λ x. longer i ⊗ x) (pow-zero R (X i)) ∙ mul-one (longer i))
        ∙ sum-suc R m longer ∙ ap₂ ◌⊕◌ (sum_ext R m longer front longer-front) longer-last
        ∙ solve R (sum R m front ∷ s 0 ∷ []) (λ x y. x :+ (y :- x) := y) tt
    longer_solves (suc j) h =
        power-sum-step m X longer j
        ∙ ap₂ (λ x y. x ⊕ X m ⊗ y)
        (sum_ext R m _ (λ i. e i ⊗ pow R (X i) j) (λ i l. ap (λ x. x ⊗ pow R (X i) j) (longer-rest i l)) ∙ solved j (omega arith))
        (longer_solves j (omega arith))
        ∙ solve R (s (suc j) ∷ X m ∷ s j ∷ []) (λ t x u. t :- x :· u :+ x :· u := t) tt

  pub weights_exist_from-zero : (m : ℕ) (X s : ℕ → car) → Distinct R m X
      → (e : ℕ → car) × ((j : ℕ) → j < m → sum R m (λ i. e i ⊗ pow R (X i) j) ≡ s j)
  weights_exist_from-zero zero X s d = (s, λ j h. absurd (not-suc-le-zero h))
  weights_exist_from-zero (suc m) X s d =
      let shorter : (e : ℕ → car) × ((j : ℕ) → j < m → power-sum m X e j ≡ s (suc j) ⊕ neg (X m ⊗ s j))
      = weights_exist_from-zero m X (λ j. s (suc j) ⊕ neg (X m ⊗ s j)) (fewer m X d) in
      (longer m X s shorter.0 d shorter.1, longer_solves m X s shorter.0 d shorter.1)

  module _ (m : ℕ) (X : ℕ → car) (distinct : Distinct R m X) (nonzero : Nonzero R m X) (b : ℕ) where
    pub weights_unique : (e : ℕ → car) → ((j : ℕ) → j < m → sum R m (λ i. e i ⊗ pow R (X i) (b + j)) ≡ 𝟘)
        → (i : ℕ) → i < m → e i ≡ 𝟘
    weights_unique e z i h =
        no-zero_divisors F (pow R (X i) b) (e i) (power-nonzero F (X i) (nonzero i h) b)
        (mul_comm _ _
        ∙ weights_unique_from-zero m X (λ i. e i ⊗ pow R (X i) b) distinct (λ j l. sym (power-sum-start m X e b j) ∙ z j l) i h)

    pub weights_exist : (s : ℕ → car)
        → (e : ℕ → car) × ((j : ℕ) → j < m → sum R m (λ i. e i ⊗ pow R (X i) (b + j)) ≡ s j)
    weights_exist s =
        let base : (e : ℕ → car) × ((j : ℕ) → j < m → power-sum m X e j ≡ s j) = weights_exist_from-zero m X s distinct in (
          λ i. base.0 i ⊗ inv (pow R (X i) b),
          λ j h.
              power-sum-start m X (λ i. base.0 i ⊗ inv (pow R (X i) b)) b j
              ∙ sum_ext R m _ _ (λ i l. ap (λ x. x ⊗ pow R (X i) j)
              (divide_mul F (base.0 i) (pow R (X i) b) (power-nonzero F (X i) (nonzero i l) b)))
              ∙ base.1 j h,
        )
