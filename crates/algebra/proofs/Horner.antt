-- Polynomials with whole coefficients in many variables, in Horner's form, which needs no order of monomials: a constant
-- a − b, or c + x·p with x the first variable, c a polynomial in the other variables and p one in all. Sum, negative and
-- product compute, and their values in a ring are the sum, negative and product of the values. A polynomial all of whose
-- constants are 0 has the value 0.
use mathlib.Core.Path.{◌≡◌, sym, ap, ap₂, ◌∙◌}
use mathlib.Core.Bool.{Bool, true, false, ◌&&◌}
use Prim.Native.Nat.{ℕ, zero, suc, ◌+◌, ◌*◌}
use native.Mathlib.Nat.{add-zero as n-add-zero, add-suc, mul-zero as n-mul-zero, mul-suc}
use lib.Dec.{T, eqb, eqb→eq}
use Rattle.algebra.specs.Ring.{CRing}
use Rattle.algebra.proofs.RingLaws.{
  zero-add,
  add-mul,
  add_swap_inner,
  mul_left_comm,
  neg-zero,
  neg-neg,
  neg_of_add,
  mul-zero,
  mul-neg,
  neg-mul,
}

infixl 20 ◌+x·◌
pub data Horner : Type 0 where
  con : ℕ → ℕ → Horner
  ◌+x·◌ : Horner → Horner → Horner

abbrev pub variable : ℕ → Horner
variable zero = con 0 0 +x· con 1 0
variable (suc i) = variable i +x· con 0 0

abbrev pub plus : Horner → Horner → Horner
plus (con a b) (con c d) = con (a + c) (b + d)
plus (con a b) (c +x· p) = plus (con a b) c +x· p
plus (c +x· p) (con a b) = plus c (con a b) +x· p
plus (c +x· p) (d +x· q) = plus c d +x· plus p q

abbrev pub minus : Horner → Horner
minus (con a b) = con b a
minus (c +x· p) = minus c +x· minus p

-- the multiple by the constant a − b
abbrev pub scale : ℕ → ℕ → Horner → Horner
scale a b (con c d) = con (a * c + b * d) (a * d + b * c)
scale a b (c +x· p) = scale a b c +x· scale a b p

-- f at each coefficient of the powers of the first variable
abbrev pub each : (Horner → Horner) → Horner → Horner
each f (con a b) = f (con a b) +x· con 0 0
each f (c +x· p) = f c +x· each f p

abbrev pub times : Horner → Horner → Horner
times (con a b) q = scale a b q
times (c +x· p) q = plus (each (times c) q) (con 0 0 +x· times p q)

abbrev pub vanishes : Horner → Bool
vanishes (con a b) = eqb a b
vanishes (c +x· p) = vanishes c && vanishes p

both-pass : (a b : Bool) → T (a && b) → T a × T b
both-pass true b t = (tt, t)
both-pass false b t = absurd t

module _ (R : CRing) where
  open R use {
    car,
    zero as 𝟘,
    one as 𝟙,
    add as ◌⊕◌,
    mul as ◌⊗◌,
    neg,
    add_assoc,
    add_comm,
    add-zero,
    add-neg,
    mul_assoc,
    mul-one,
    mul-add,
  }

  infixl 60 ◌⊕◌
  infixl 70 ◌⊗◌
  -- n times 1
  count : ℕ → car
  count zero = 𝟘
  count (suc n) = count n ⊕ 𝟙

  count_add : (m n : ℕ) → count (m + n) ≡ count m ⊕ count n
  unfolding count
  count_add m zero = ap count (n-add-zero m) ∙ sym (add-zero (count m))
  count_add m (suc n) = ap count (add-suc m n) ∙ ap (λ x. x ⊕ 𝟙) (count_add m n) ∙ add_assoc (count m) (count n) 𝟙

  count-mul : (m n : ℕ) → count (m * n) ≡ count m ⊗ count n
  unfolding count
  count-mul m zero = ap count (n-mul-zero m) ∙ sym (mul-zero R (count m))
  count-mul m (suc n) =
      ap count (mul-suc m n) ∙ count_add (m * n) m
      ∙ ap₂ ◌⊕◌ (count-mul m n) (sym (mul-one (count m))) ∙ sym (mul-add (count m) (count n) 𝟙)

  whole : ℕ → ℕ → car
  whole a b = count a ⊕ neg (count b)

  whole-zero : whole 0 0 ≡ 𝟘
  unfolding whole
  whole-zero = add-neg (count 0)

  whole-one : whole 1 0 ≡ 𝟙
  unfolding whole count
  whole-one = ap₂ ◌⊕◌ (zero-add R 𝟙) (neg-zero R) ∙ add-zero 𝟙

  whole-add : (a b c d : ℕ) → whole (a + c) (b + d) ≡ whole a b ⊕ whole c d
  unfolding whole
  whole-add a b c d =
      ap₂ ◌⊕◌ (count_add a c) (ap neg (count_add b d) ∙ neg_of_add R (count b) (count d))
      ∙ add_swap_inner R (count a) (count c) (neg (count b)) (neg (count d))

  whole_neg : (a b : ℕ) → whole b a ≡ neg (whole a b)
  unfolding whole
  whole_neg a b =
      add_comm (count b) (neg (count a)) ∙ ap (λ x. neg (count a) ⊕ x) (sym (neg-neg R (count b)))
      ∙ sym (neg_of_add R (count a) (neg (count b)))

  whole-mul : (a b c d : ℕ) → whole (a * c + b * d) (a * d + b * c) ≡ whole a b ⊗ whole c d
  unfolding whole
  whole-mul a b c d =
      ap₂ (λ x y. x ⊕ neg y) (products a c b d) (products a d b c)
      ∙ sym (add-mul R A (neg B) (C ⊕ neg D)
      ∙ ap₂ ◌⊕◌ (mul-add A C (neg D) ∙ ap (λ x. A ⊗ C ⊕ x) (mul-neg R A D)) opposite
      ∙ add_swap_inner R (A ⊗ C) (neg (A ⊗ D)) (B ⊗ D) (neg (B ⊗ C))
      ∙ ap (λ x. (A ⊗ C ⊕ B ⊗ D) ⊕ x) (sym (neg_of_add R (A ⊗ D) (B ⊗ C))))
    where
      A : car
      A = count a

      B : car
      B = count b

      C : car
      C = count c

      D : car
      D = count d

      products : (i j k l : ℕ) → count (i * j + k * l) ≡ count i ⊗ count j ⊕ count k ⊗ count l
      products i j k l = count_add (i * j) (k * l) ∙ ap₂ ◌⊕◌ (count-mul i j) (count-mul k l)

      opposite : neg B ⊗ (C ⊕ neg D) ≡ B ⊗ D ⊕ neg (B ⊗ C)
      opposite =
          neg-mul R B (C ⊕ neg D) ∙ ap neg (mul-add B C (neg D) ∙ ap (λ x. B ⊗ C ⊕ x) (mul-neg R B D))
          ∙ neg_of_add R (B ⊗ C) (neg (B ⊗ D)) ∙ add_comm (neg (B ⊗ C)) (neg (neg (B ⊗ D)))
          ∙ ap (λ x. x ⊕ neg (B ⊗ C)) (neg-neg R (B ⊗ D))

  -- the value at variables ρ 0, ρ 1, ..
  pub value : (ℕ → car) → Horner → car
  value ρ (con a b) = whole a b
  value ρ (c +x· p) = value (λ i. ρ (suc i)) c ⊕ ρ 0 ⊗ value ρ p

  no-x : (a x : car) → a ⊕ x ⊗ whole 0 0 ≡ a
  no-x a x = ap (λ y. a ⊕ x ⊗ y) whole-zero ∙ ap (λ y. a ⊕ y) (mul-zero R x) ∙ add-zero a

  pub value-zero : (ρ : ℕ → car) → value ρ (con 0 0) ≡ 𝟘
  unfolding value
  value-zero ρ = whole-zero

  pub value-one : (ρ : ℕ → car) → value ρ (con 1 0) ≡ 𝟙
  unfolding value
  value-one ρ = whole-one

  pub value-variable : (ρ : ℕ → car) (i : ℕ) → value ρ (variable i) ≡ ρ i
  unfolding value
  value-variable ρ zero = ap₂ (λ x y. x ⊕ ρ 0 ⊗ y) whole-zero whole-one ∙ zero-add R (ρ 0 ⊗ 𝟙) ∙ mul-one (ρ 0)
  value-variable ρ (suc i) = no-x (value (λ j. ρ (suc j)) (variable i)) (ρ 0) ∙ value-variable (λ j. ρ (suc j)) i

  pub value-plus : (ρ : ℕ → car) (p q : Horner) → value ρ (plus p q) ≡ value ρ p ⊕ value ρ q
  unfolding value
  value-plus ρ (con a b) (con c d) = whole-add a b c d
  value-plus ρ (con a b) (d +x· q) =
      ap (λ x. x ⊕ ρ 0 ⊗ value ρ q) (value-plus (λ i. ρ (suc i)) (con a b) d) ∙ add_assoc _ _ _
  value-plus ρ (c +x· p) (con a b) =
      ap (λ x. x ⊕ ρ 0 ⊗ value ρ p) (value-plus (λ i. ρ (suc i)) c (con a b)) ∙ add_assoc _ _ _
      ∙ ap (λ x. value (λ i. ρ (suc i)) c ⊕ x) (add_comm (whole a b) (ρ 0 ⊗ value ρ p)) ∙ sym (add_assoc _ _ _)
  value-plus ρ (c +x· p) (d +x· q) =
      ap₂ (λ x y. x ⊕ ρ 0 ⊗ y) (value-plus (λ i. ρ (suc i)) c d) (value-plus ρ p q)
      ∙ ap (λ x. (value (λ i. ρ (suc i)) c ⊕ value (λ i. ρ (suc i)) d) ⊕ x) (mul-add (ρ 0) (value ρ p) (value ρ q))
      ∙ add_swap_inner R _ _ _ _

  pub value-minus : (ρ : ℕ → car) (p : Horner) → value ρ (minus p) ≡ neg (value ρ p)
  unfolding value
  value-minus ρ (con a b) = whole_neg a b
  value-minus ρ (c +x· p) =
      ap₂ ◌⊕◌ (value-minus (λ i. ρ (suc i)) c) (ap (λ x. ρ 0 ⊗ x) (value-minus ρ p) ∙ mul-neg R (ρ 0) (value ρ p))
      ∙ sym (neg_of_add R _ _)

  distribute : (k c x p : car) → k ⊗ c ⊕ x ⊗ (k ⊗ p) ≡ k ⊗ (c ⊕ x ⊗ p)
  distribute k c x p = ap (λ y. k ⊗ c ⊕ y) (mul_left_comm R x k p) ∙ sym (mul-add k c (x ⊗ p))

  value-scale : (ρ : ℕ → car) (a b : ℕ) (q : Horner) → value ρ (scale a b q) ≡ whole a b ⊗ value ρ q
  unfolding value
  value-scale ρ a b (con c d) = whole-mul a b c d
  value-scale ρ a b (c +x· p) =
      ap₂ (λ x y. x ⊕ ρ 0 ⊗ y) (value-scale (λ i. ρ (suc i)) a b c) (value-scale ρ a b p)
      ∙ distribute (whole a b) (value (λ i. ρ (suc i)) c) (ρ 0) (value ρ p)

  value-each : (ρ : ℕ → car) (f : Horner → Horner) (k : car)
      → ((q : Horner) → value (λ i. ρ (suc i)) (f q) ≡ k ⊗ value (λ i. ρ (suc i)) q)
      → (q : Horner) → value ρ (each f q) ≡ k ⊗ value ρ q
  unfolding value
  value-each ρ f k e (con a b) = no-x (value (λ i. ρ (suc i)) (f (con a b))) (ρ 0) ∙ e (con a b)
  value-each ρ f k e (c +x· p) =
      ap₂ (λ x y. x ⊕ ρ 0 ⊗ y) (e c) (value-each ρ f k e p)
      ∙ distribute k (value (λ i. ρ (suc i)) c) (ρ 0) (value ρ p)

  pub value-times : (ρ : ℕ → car) (p q : Horner) → value ρ (times p q) ≡ value ρ p ⊗ value ρ q
  unfolding value
  value-times ρ (con a b) q = value-scale ρ a b q
  value-times ρ (c +x· p) q =
      value-plus ρ (each (times c) q) (con 0 0 +x· times p q)
      ∙ ap₂ ◌⊕◌ (value-each ρ (times c) (value (λ i. ρ (suc i)) c) (value-times (λ i. ρ (suc i)) c) q)
      (ap₂ (λ x y. x ⊕ ρ 0 ⊗ y) whole-zero (value-times ρ p q) ∙ zero-add R _ ∙ sym (mul_assoc _ _ _))
      ∙ sym (add-mul R _ _ _)

  pub value-vanishes : (ρ : ℕ → car) (p : Horner) → T (vanishes p) → value ρ p ≡ 𝟘
  unfolding value whole
  value-vanishes ρ (con a b) t = ap (λ x. x ⊕ neg (count b)) (ap count (eqb→eq a b t)) ∙ add-neg (count b)
  value-vanishes ρ (c +x· p) t =
      let h : T (vanishes c) × T (vanishes p) = both-pass (vanishes c) (vanishes p) t in
      ap₂ (λ x y. x ⊕ ρ 0 ⊗ y) (value-vanishes (λ i. ρ (suc i)) c h.0) (value-vanishes ρ p h.1)
      ∙ zero-add R (ρ 0 ⊗ 𝟘) ∙ mul-zero R (ρ 0)
