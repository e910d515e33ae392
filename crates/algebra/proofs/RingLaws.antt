-- The small laws of a commutative ring that follow from its record at once.
use mathlib.Core.Path.{◌≡◌, sym, ap, ap₂, ◌∙◌}
use Rattle.algebra.specs.Ring.{CRing}

module _ (R : CRing) where
  open R use {
    car,
    zero as 𝟘,
    one as 𝟙,
    add as ◌⊕◌,
    mul as ◌⊗◌,
    neg,
    add_assoc,
    add_comm,
    add-zero,
    add-neg,
    mul_assoc,
    mul_comm,
    mul-one,
    mul-add,
  }

  infixl 60 ◌⊕◌
  infixl 70 ◌⊗◌
  pub zero-add : (a : car) → 𝟘 ⊕ a ≡ a
  zero-add a = add_comm 𝟘 a ∙ add-zero a

  neg-add : (a : car) → neg a ⊕ a ≡ 𝟘
  neg-add a = add_comm (neg a) a ∙ add-neg a

  pub one-mul : (a : car) → 𝟙 ⊗ a ≡ a
  one-mul a = mul_comm 𝟙 a ∙ mul-one a

  pub add-mul : (a b c : car) → (a ⊕ b) ⊗ c ≡ a ⊗ c ⊕ b ⊗ c
  add-mul a b c = mul_comm (a ⊕ b) c ∙ mul-add c a b ∙ ap₂ ◌⊕◌ (mul_comm c a) (mul_comm c b)

  pub add_swap_inner : (a b c d : car) → (a ⊕ b) ⊕ (c ⊕ d) ≡ (a ⊕ c) ⊕ (b ⊕ d)
  add_swap_inner a b c d =
      add_assoc a b (c ⊕ d)
      ∙ ap (λ x. a ⊕ x) (sym (add_assoc b c d) ∙ ap (λ x. x ⊕ d) (add_comm b c) ∙ add_assoc c b d)
      ∙ sym (add_assoc a c (b ⊕ d))

  pub mul_swap_inner : (a b c d : car) → (a ⊗ b) ⊗ (c ⊗ d) ≡ (a ⊗ c) ⊗ (b ⊗ d)
  mul_swap_inner a b c d =
      mul_assoc a b (c ⊗ d)
      ∙ ap (λ x. a ⊗ x) (sym (mul_assoc b c d) ∙ ap (λ x. x ⊗ d) (mul_comm b c) ∙ mul_assoc c b d)
      ∙ sym (mul_assoc a c (b ⊗ d))

  pub mul_left_comm : (a b c : car) → a ⊗ (b ⊗ c) ≡ b ⊗ (a ⊗ c)
  mul_left_comm a b c = sym (mul_assoc a b c) ∙ ap (λ x. x ⊗ c) (mul_comm a b) ∙ mul_assoc b a c

  pub add-cancel : (a b c : car) → a ⊕ b ≡ a ⊕ c → b ≡ c
  add-cancel a b c e = sym (drop b) ∙ ap (λ x. neg a ⊕ x) e ∙ drop c
    where
      drop : (x : car) → neg a ⊕ (a ⊕ x) ≡ x
      drop x = sym (add_assoc (neg a) a x) ∙ ap (λ y. y ⊕ x) (neg-add a) ∙ zero-add x

  -- an element that adds up to 0 with a is the negative of a
  neg_unique : (a b : car) → a ⊕ b ≡ 𝟘 → b ≡ neg a
  neg_unique a b e = add-cancel a b (neg a) (e ∙ sym (add-neg a))

  pub eq_of_sub-zero : (a b : car) → a ⊕ neg b ≡ 𝟘 → a ≡ b
  eq_of_sub-zero a b e = add-cancel (neg b) a b (add_comm (neg b) a ∙ e ∙ sym (neg-add b))

  pub neg-neg : (a : car) → neg (neg a) ≡ a
  neg-neg a = sym (neg_unique (neg a) a (neg-add a))

  pub neg-zero : neg 𝟘 ≡ 𝟘
  neg-zero = sym (neg_unique 𝟘 𝟘 (add-zero 𝟘))

  pub neg_of_add : (a b : car) → neg (a ⊕ b) ≡ neg a ⊕ neg b
  neg_of_add a b =
      sym (neg_unique (a ⊕ b) (neg a ⊕ neg b)
      (add_swap_inner a b (neg a) (neg b) ∙ ap₂ ◌⊕◌ (add-neg a) (add-neg b) ∙ add-zero 𝟘))

  pub mul-zero : (a : car) → a ⊗ 𝟘 ≡ 𝟘
  mul-zero a =
      add-cancel (a ⊗ 𝟘) (a ⊗ 𝟘) 𝟘 (sym (mul-add a 𝟘 𝟘) ∙ ap (λ x. a ⊗ x) (add-zero 𝟘) ∙ sym (add-zero (a ⊗ 𝟘)))

  pub zero-mul : (a : car) → 𝟘 ⊗ a ≡ 𝟘
  zero-mul a = mul_comm 𝟘 a ∙ mul-zero a

  pub mul-neg : (a b : car) → a ⊗ neg b ≡ neg (a ⊗ b)
  mul-neg a b =
      neg_unique (a ⊗ b) (a ⊗ neg b) (sym (mul-add a b (neg b)) ∙ ap (λ x. a ⊗ x) (add-neg b) ∙ mul-zero a)

  pub neg-mul : (a b : car) → neg a ⊗ b ≡ neg (a ⊗ b)
  neg-mul a b = mul_comm (neg a) b ∙ mul-neg b a ∙ ap neg (mul_comm b a)
