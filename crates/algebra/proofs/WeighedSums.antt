-- Sums of coefficients times weights, where the weight of a + k is the product of those of a and of k, as it is for the powers of an element. What
-- multiplying by a factor, adding a multiple of a polynomial and putting a remainder make of them.
use mathlib.Core.Path.{◌≡◌, sym, ap, ap₂, ◌∙◌}
use mathlib.Core.List.{[], ◌∷◌}
use Prim.Native.Nat.{ℕ, suc, ◌+◌, ◌<◌}
use native.Mathlib.Numerals.{add-one}
use Rattle.algebra.specs.Ring.{CRing}
use Rattle.algebra.specs.Sum.{sum}
use Rattle.algebra.proofs.RingLaws.{zero-mul}
use Rattle.algebra.proofs.Sums.{sum-suc, sum_head, sum-split, sum_ext, sum_zeros, sum-add, sum-mul, sum-neg}
use Rattle.algebra.proofs.Solver.{:0, :1, ◌:+◌, ◌:-◌, ◌:·◌, :neg, ◌:=◌, ◌:×◌:≡◌:⇒◌, solve}

module _ (R : CRing) where
  open R use {car, zero as 𝟘, one as 𝟙, add as ◌⊕◌, mul as ◌⊗◌, neg}

  infixl 60 ◌⊕◌
  infixl 70 ◌⊗◌
  module _ (w : ℕ → car) where
    -- the sum of the first n coefficients with their weights
    abbrev weighed : ℕ → (ℕ → car) → car
    weighed n c = sum R n (λ k. c k ⊗ w k)

    -- a remainder r of c below m, put in its place with the sign changed, leaves 0
    pub remainder_put : (m t : ℕ) (y c r : ℕ → car) → ((k : ℕ) → k < m → y k ≡ neg (r k)) → ((k : ℕ) → k < m → c k ≡ 𝟘)
        → ((k : ℕ) → k < t → y (m + k) ≡ c (m + k)) → weighed m r ≡ weighed (m + t) c → weighed (m + t) y ≡ 𝟘
    remainder_put m t y c r front empty back same =
        sum-split R m t (λ k. y k ⊗ w k)
        ∙ ap₂ ◌⊕◌
        (sum_ext R m _ (λ k. neg (r k ⊗ w k)) (λ k h.
        ap (λ x. x ⊗ w k) (front k h) ∙ solve R (r k ∷ w k ∷ []) (λ a b. :neg a :· b := :neg (a :· b)) tt)
        ∙ sum-neg R m (λ k. r k ⊗ w k))
        (sum_ext R t _ (λ k. c (m + k) ⊗ w (m + k)) (λ k h. ap (λ x. x ⊗ w (m + k)) (back k h)))
        ∙ solve R (weighed m r ∷ weighed (m + t) c ∷ weighed m c ∷ sum R t (λ k. c (m + k) ⊗ w (m + k)) ∷ [])
        (λ s u z v. :neg :1 :× s :≡ u :⇒ :neg :1 :× u :≡ z :+ v :⇒ :neg :1 :× z :≡ :0 :⇒ :neg s :+ v := :0) tt
        same (sum-split R m t (λ k. c k ⊗ w k))
        (sum_zeros R m (λ k. c k ⊗ w k) (λ k h. ap (λ x. x ⊗ w k) (empty k h) ∙ zero-mul R (w k)))

    module _ (w-add : (a k : ℕ) → w (a + k) ≡ w a ⊗ w k) where
      -- f times z − x; s is f times z
      pub factor_multiplied : (n : ℕ) (x : car) (f s y : ℕ → car) → f n ≡ 𝟘 → s 0 ≡ 𝟘 → ((k : ℕ) → k < n → s (suc k) ≡ f k)
          → ((k : ℕ) → k < suc n → y k ≡ s k ⊕ neg x ⊗ f k) → weighed (suc n) y ≡ (w 1 ⊕ neg x) ⊗ weighed n f
      factor_multiplied n x f s y top first next is =
          sum_ext R (suc n) _ (λ k. s k ⊗ w k ⊕ neg x ⊗ (f k ⊗ w k)) (λ k h.
          ap (λ v. v ⊗ w k) (is k h) ∙ solve R (s k ∷ x ∷ f k ∷ w k ∷ []) (λ a b c d. (a :+ :neg b :· c) :· d := a :· d :+ :neg b :· (c :· d)) tt)
          ∙ sum-add R (suc n) (λ k. s k ⊗ w k) (λ k. neg x ⊗ (f k ⊗ w k))
          ∙ ap₂ ◌⊕◌ moved (sum-mul R (suc n) (neg x) (λ k. f k ⊗ w k) ∙ ap (λ v. neg x ⊗ v) (sum-suc R n (λ k. f k ⊗ w k)))
          ∙ solve R (s 0 ∷ w 0 ∷ w 1 ∷ weighed n f ∷ x ∷ f n ∷ w n ∷ [])
          (λ a b c v d t u. b :× a :≡ :0 :⇒ :neg d :· u :× t :≡ :0 :⇒ a :· b :+ c :· v :+ :neg d :· (v :+ t :· u) := (c :- d) :· v) tt first top
        where
          moved : weighed (suc n) s ≡ s 0 ⊗ w 0 ⊕ w 1 ⊗ weighed n f
          moved =
              sum_head R n (λ k. s k ⊗ w k)
              ∙ ap (λ v. s 0 ⊗ w 0 ⊕ v)
              (sum_ext R n _ (λ k. w 1 ⊗ (f k ⊗ w k)) (λ k h.
              ap₂ ◌⊗◌ (next k h) (ap w (sym (add-one k)) ∙ w-add k 1)
              ∙ solve R (f k ∷ w k ∷ w 1 ∷ []) (λ a b c. a :· (b :· c) := c :· (a :· b)) tt)
              ∙ sum-mul R n (w 1) (λ k. f k ⊗ w k))

      -- the multiple of g that takes off the leading coefficient of c, at a + m; g has the leading coefficient −1
      pub multiple_added : (a m : ℕ) (c g y : ℕ → car) → g m ≡ neg 𝟙 → weighed (suc m) g ≡ 𝟘 → ((k : ℕ) → k < a → y k ≡ c k)
          → ((k : ℕ) → k < m → y (a + k) ≡ c (a + k) ⊕ g k ⊗ c (a + m)) → weighed (a + m) y ≡ weighed (suc (a + m)) c
      multiple_added a m c g y monic zero before is =
          sum-split R a m (λ k. y k ⊗ w k)
          ∙ ap₂ ◌⊕◌ (sum_ext R a _ (λ k. c k ⊗ w k) (λ k h. ap (λ v. v ⊗ w k) (before k h)))
          (sum_ext R m _ (λ k. c (a + k) ⊗ w (a + k) ⊕ (c (a + m) ⊗ w a) ⊗ (g k ⊗ w k)) (λ k h. term k h)
          ∙ sum-add R m (λ k. c (a + k) ⊗ w (a + k)) (λ k. (c (a + m) ⊗ w a) ⊗ (g k ⊗ w k))
          ∙ ap (λ v. B ⊕ v) (sum-mul R m (c (a + m) ⊗ w a) (λ k. g k ⊗ w k)))
          ∙ solve R (A ∷ B ∷ G ∷ c (a + m) ∷ w a ∷ w m ∷ g m ∷ [])
          (λ p q s l u v t. (l :· u) :× s :+ t :· v :≡ :0 :⇒ :neg (l :· u :· v) :× t :≡ :neg :1 :⇒ p :+ (q :+ (l :· u) :· s) := p :+ q :+ l :· (u :· v)) tt
          (sym (sum-suc R m (λ k. g k ⊗ w k)) ∙ zero) monic
          ∙ sym (sum-suc R (a + m) (λ k. c k ⊗ w k)
          ∙ ap₂ (λ u v. u ⊕ c (a + m) ⊗ v) (sum-split R a m (λ k. c k ⊗ w k)) (w-add a m))
        where
          A : car
          A = weighed a c

          B : car
          B = sum R m (λ k. c (a + k) ⊗ w (a + k))

          G : car
          G = weighed m g

          term : (k : ℕ) → k < m → y (a + k) ⊗ w (a + k) ≡ c (a + k) ⊗ w (a + k) ⊕ (c (a + m) ⊗ w a) ⊗ (g k ⊗ w k)
          term k h =
              ap (λ v. v ⊗ w (a + k)) (is k h)
              ∙ solve R (c (a + k) ∷ g k ∷ c (a + m) ∷ w (a + k) ∷ w a ∷ w k ∷ [])
              (λ p q l u s t. q :· l :× u :≡ s :· t :⇒ (p :+ q :· l) :· u := p :· u :+ (l :· s) :· (q :· t)) tt (w-add a k)
