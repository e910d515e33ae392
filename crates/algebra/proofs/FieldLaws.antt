-- The laws of a field that its ring does not have: no zero divisors, cancellation, inverses.
use mathlib.Core.Path.{◌≡◌, sym, ap, ◌∙◌}
use mathlib.Core.Logic.{◌≢◌}
use mathlib.Core.List.{[], ◌∷◌}
use Prim.Native.Nat.{ℕ, zero, suc}
use Rattle.algebra.specs.Ring.{Field}
use Rattle.algebra.specs.Sum.{pow}
use Rattle.algebra.proofs.RingLaws.{eq_of_sub-zero, mul-zero}
use Rattle.algebra.proofs.Powers.{pow-zero, pow-suc}
use Rattle.algebra.proofs.Solver.{:0, :1, ◌:-◌, ◌:·◌, :neg, ◌:=◌, ◌:×◌:≡◌:⇒◌, solve}

module _ (F : Field) where
  open F use {ring as R, inv, mul-inv, one_ne_zero}
  open R use {car, zero as 𝟘, one as 𝟙, add as ◌⊕◌, mul as ◌⊗◌, neg, mul_comm}

  infixl 60 ◌⊕◌
  infixl 70 ◌⊗◌
  inverse-nonzero : (a b : car) → a ⊗ b ≡ 𝟙 → b ≢ 𝟘
  inverse-nonzero a b e z = one_ne_zero (sym e ∙ ap (λ x. a ⊗ x) z ∙ mul-zero R a)

  pub inv-nonzero : (a : car) → a ≢ 𝟘 → inv a ≢ 𝟘
  inv-nonzero a n = inverse-nonzero a (inv a) (mul-inv a n)

  pub no-zero_divisors : (a b : car) → a ≢ 𝟘 → a ⊗ b ≡ 𝟘 → b ≡ 𝟘
  no-zero_divisors a b n e =
      solve R (a ∷ b ∷ inv a ∷ []) (λ x y i. i :× x :· y :≡ :0 :⇒ :neg y :× x :· i :≡ :1 :⇒ y := :0) tt e (mul-inv a n)

  pub mul-nonzero : (a b : car) → a ≢ 𝟘 → b ≢ 𝟘 → a ⊗ b ≢ 𝟘
  mul-nonzero a b n m e = m (no-zero_divisors a b n e)

  pub power-nonzero : (a : car) → a ≢ 𝟘 → (n : ℕ) → pow R a n ≢ 𝟘
  power-nonzero a n zero e = one_ne_zero (sym (pow-zero R a) ∙ e)
  power-nonzero a n (suc k) e = mul-nonzero (pow R a k) a (power-nonzero a n k) n (sym (pow-suc R a k) ∙ e)

  pub difference_nonzero : (a b : car) → a ≢ b → a ⊕ neg b ≢ 𝟘
  difference_nonzero a b n e = n (eq_of_sub-zero R a b e)

  pub mul-cancel : (a b c : car) → a ≢ 𝟘 → a ⊗ b ≡ a ⊗ c → b ≡ c
  mul-cancel a b c n e =
      solve R (a ∷ b ∷ c ∷ inv a ∷ [])
      (λ x y z i. i :× x :· y :≡ x :· z :⇒ z :- y :× x :· i :≡ :1 :⇒ y := z) tt e (mul-inv a n)

  -- a factor and its inverse fall away
  pub divide_mul : (a b : car) → b ≢ 𝟘 → a ⊗ inv b ⊗ b ≡ a
  divide_mul a b n = solve R (a ∷ b ∷ inv b ∷ []) (λ x y i. x :× y :· i :≡ :1 :⇒ x :· i :· y := x) tt (mul-inv b n)

  pub inverse_unique : (a b : car) → a ⊗ b ≡ 𝟙 → b ≡ inv a
  inverse_unique a b e =
      solve R (a ∷ b ∷ inv a ∷ []) (λ x y i. i :× x :· y :≡ :1 :⇒ :neg y :× x :· i :≡ :1 :⇒ y := i) tt
      e (mul-inv a (inverse-nonzero b a (mul_comm b a ∙ e)))

  pub inv_injective : (a b : car) → a ≢ 𝟘 → b ≢ 𝟘 → inv a ≡ inv b → a ≡ b
  inv_injective a b n m e =
      solve R (a ∷ b ∷ inv a ∷ inv b ∷ [])
      (λ x y i j. y :× x :· i :≡ :1 :⇒ :neg x :× y :· j :≡ :1 :⇒ :neg (x :· y) :× i :≡ j :⇒ x := y) tt
      (mul-inv a n) (mul-inv b m) e
