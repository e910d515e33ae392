-- A solver for identities of a commutative ring R. `solve R xs (λ ..) tt` takes the list xs of the ring elements that
-- are the variables, and the claim with a name for each of them; `tt` passes when both sides have one normal form.
--
--     solve R (a ∷ b ∷ []) (λ x y. (x :+ y) :· (x :- y) := x :· x :- y :· y) tt
--       : (a ⊕ b) ⊗ (a ⊕ neg b) ≡ a ⊗ a ⊕ neg (b ⊗ b)
--
-- A claim may rest on equations. `k :× l :≡ r :⇒ claim` takes a proof of l ≡ r after `tt` and spends it k times: the
-- difference of the sides claimed must be the sum of the k·(l − r). From h : a ⊕ b ≡ 𝟘 and g : c ⊗ a ≡ 𝟙,
--
--     solve R (a ∷ b ∷ c ∷ []) (λ x y z. z :× x :+ y :≡ :0 :⇒ :neg :1 :× z :· x :≡ :1 :⇒ z :· y := :neg :1) tt h g
--       : c ⊗ b ≡ neg 𝟙
--
-- Write each side as it stands in the goal: `x :- y` is `x ⊕ neg y`. Whatever is no sum, product, negative, 0 or 1
-- (a power, a finite sum, an inverse) goes into the list of variables.
use mathlib.Core.Path.{◌≡◌, refl, sym, ap, ap₂, ◌∙◌}
use mathlib.Core.Bool.{Bool}
use mathlib.Core.List.{List, [], ◌∷◌}
use Prim.Native.Nat.{ℕ, zero, suc}
use lib.Dec.{T}
use Rattle.algebra.specs.Ring.{CRing}
use Rattle.algebra.proofs.RingLaws.{eq_of_sub-zero, mul-zero, zero-add}
use Rattle.algebra.proofs.Horner.{
  Horner,
  con,
  variable,
  plus,
  minus,
  times,
  vanishes,
  value,
  value-zero,
  value-one,
  value-variable,
  value-plus,
  value-minus,
  value-times,
  value-vanishes,
}

infixl 60 ◌:+◌ ◌:-◌
infixl 70 ◌:·◌
infix 4 ◌:=◌
infixr 3 ◌:×◌:≡◌:⇒◌
pub data Expr : Type 0 where
  var : ℕ → Expr
  :0 : Expr
  :1 : Expr
  ◌:+◌ : Expr → Expr → Expr
  ◌:·◌ : Expr → Expr → Expr
  :neg : Expr → Expr

abbrev pub ◌:-◌ : Expr → Expr → Expr
x :- y = x :+ :neg y

pub data Claim : Type 0 where
  ◌:=◌ : Expr → Expr → Claim
  ◌:×◌:≡◌:⇒◌ : Expr → Expr → Expr → Claim → Claim

abbrev pub normal : Expr → Horner
normal (var i) = variable i
normal :0 = con 0 0
normal :1 = con 1 0
normal (x :+ y) = plus (normal x) (normal y)
normal (x :· y) = times (normal x) (normal y)
normal (:neg x) = minus (normal x)

-- the sides claimed differ by what is spent
abbrev pub holds : Expr → Claim → Bool
holds spent (x := y) = vanishes (normal (x :- y :- spent))
holds spent (k :× l :≡ r :⇒ c) = holds (spent :+ k :· (l :- r)) c

-- a claim with a place for each variable of the list
abbrev pub Open : {A : Type 0} → List A → Type 0
Open [] = Claim
Open (x ∷ xs) = Expr → Open xs

abbrev pub close : {A : Type 0} (xs : List A) → ℕ → Open xs → Claim
close [] i c = c
close (x ∷ xs) i c = close xs (suc i) (c (var i))

module _ (R : CRing) where
  open R use {car, zero as 𝟘, one as 𝟙, add as ◌⊕◌, mul as ◌⊗◌, neg, add-neg}

  infixl 60 ◌⊕◌
  infixl 70 ◌⊗◌
  abbrev pub at : List car → ℕ → car
  at [] i = 𝟘
  at (x ∷ xs) zero = x
  at (x ∷ xs) (suc i) = at xs i

  abbrev pub evaluate : List car → Expr → car
  evaluate ρ (var i) = at ρ i
  evaluate ρ :0 = 𝟘
  evaluate ρ :1 = 𝟙
  evaluate ρ (x :+ y) = evaluate ρ x ⊕ evaluate ρ y
  evaluate ρ (x :· y) = evaluate ρ x ⊗ evaluate ρ y
  evaluate ρ (:neg x) = neg (evaluate ρ x)

  abbrev pub Meaning : List car → Claim → Type 0
  Meaning ρ (x := y) = evaluate ρ x ≡ evaluate ρ y
  Meaning ρ (k :× l :≡ r :⇒ c) = evaluate ρ l ≡ evaluate ρ r → Meaning ρ c

  value-normal : (ρ : List car) (x : Expr) → value R (at ρ) (normal x) ≡ evaluate ρ x
  value-normal ρ (var i) = value-variable R (at ρ) i
  value-normal ρ :0 = value-zero R (at ρ)
  value-normal ρ :1 = value-one R (at ρ)
  value-normal ρ (x :+ y) =
      value-plus R (at ρ) (normal x) (normal y) ∙ ap₂ ◌⊕◌ (value-normal ρ x) (value-normal ρ y)
  value-normal ρ (x :· y) =
      value-times R (at ρ) (normal x) (normal y) ∙ ap₂ ◌⊗◌ (value-normal ρ x) (value-normal ρ y)
  value-normal ρ (:neg x) = value-minus R (at ρ) (normal x) ∙ ap neg (value-normal ρ x)

  spend : (k l r s : car) → s ≡ 𝟘 → l ≡ r → s ⊕ k ⊗ (l ⊕ neg r) ≡ 𝟘
  spend k l r s z e =
      ap₂ (λ x y. x ⊕ k ⊗ (y ⊕ neg r)) z e ∙ zero-add R _ ∙ ap (λ x. k ⊗ x) (add-neg r) ∙ mul-zero R k

  meant : (ρ : List car) (spent : Expr) → evaluate ρ spent ≡ 𝟘 → (c : Claim) → T (holds spent c) → Meaning ρ c
  meant ρ spent z (x := y) t = eq_of_sub-zero R _ _ (eq_of_sub-zero R _ _ nothing ∙ z)
    where
      nothing : evaluate ρ (x :- y :- spent) ≡ 𝟘
      nothing = sym (value-normal ρ (x :- y :- spent)) ∙ value-vanishes R (at ρ) (normal (x :- y :- spent)) t
  meant ρ spent z (k :× l :≡ r :⇒ c) t =
      λ e. meant ρ (spent :+ k :· (l :- r)) (spend (evaluate ρ k) (evaluate ρ l) (evaluate ρ r) (evaluate ρ spent) z e) c t

  pub solve : (ρ : List car) (c : Open ρ) → T (holds :0 (close ρ 0 c)) → Meaning ρ (close ρ 0 c)
  solve ρ c t = meant ρ :0 refl (close ρ 0 c) t
