-- The locator polynomial of a list of locators: its constant term is 1, its degree at most their number (exactly that
-- where all are nonzero), and its roots are exactly their inverses.
use mathlib.Core.Path.{◌≡◌, refl, sym, ap, ap₂, ◌∙◌}
use mathlib.Core.Logic.{◌≢◌}
use mathlib.Core.List.{List, [], ◌∷◌}
use Prim.Native.Nat.{ℕ, zero, suc, ◌<◌, suc-le-suc}
use native.Mathlib.Nat.{not-suc-le-zero, le_of_suc-le-suc, lt-suc_self}
use native.Mathlib.Omega.{arith}
use lib.ListN.{length, get_or}
use Rattle.algebra.specs.Ring.{CRing, Field}
use Rattle.algebra.specs.Polynomial.{Degree, eval}
use Rattle.algebra.specs.Locator.{Distinct, Nonzero, unit, factor, locator}
use Rattle.algebra.proofs.RingLaws.{mul-zero}
use Rattle.algebra.proofs.EvalLaws.{factor-suc, eval-constant, eval-factor}
use Rattle.algebra.proofs.FieldLaws.{no-zero_divisors, difference_nonzero, inv_injective}
use Rattle.algebra.proofs.Solver.{:0, :1, ◌:-◌, ◌:·◌, :neg, ◌:=◌, ◌:×◌:≡◌:⇒◌, solve}

module _ (R : CRing) where
  open R use {car, zero as 𝟘, one as 𝟙, add as ◌⊕◌, mul as ◌⊗◌, neg}

  infixl 60 ◌⊕◌
  infixl 70 ◌⊗◌
  pub locator_cons : (x : car) (xs : List car) → locator R (x ∷ xs) ≡ factor R x (locator R xs)
  unfolding locator
  locator_cons x xs = refl

  pub locator-constant : (xs : List car) → locator R xs 0 ≡ 𝟙
  unfolding locator unit factor
  locator-constant [] = refl
  locator-constant (x ∷ xs) = locator-constant xs

  pub locator_degree : (xs : List car) → Degree R (length xs) (locator R xs)
  unfolding locator unit factor
  locator_degree [] zero h = absurd (not-suc-le-zero h)
  locator_degree [] (suc i) h = refl
  locator_degree (x ∷ xs) zero h = absurd (not-suc-le-zero h)
  locator_degree (x ∷ xs) (suc i) h =
      ap₂ (λ a b. a ⊕ neg (x ⊗ b)) (locator_degree xs (suc i) (omega arith)) (locator_degree xs i (le_of_suc-le-suc h))
      ∙ solve R (x ∷ []) (λ a. :0 :- a :· :0 := :0) tt

  eval-locator : (x : car) (xs : List car) (y : car)
      → eval R (suc (length xs)) (locator R (x ∷ xs)) y ≡ (𝟙 ⊕ neg (x ⊗ y)) ⊗ eval R (length xs) (locator R xs) y
  eval-locator x xs y =
      ap (λ f. eval R (suc (length xs)) f y) (locator_cons x xs)
      ∙ eval-factor R (length xs) x (locator R xs) y (locator_degree xs)

  pub locator-root : (xs : List car) (y : car) (i : ℕ) → i < length xs → get_or xs i 𝟘 ⊗ y ≡ 𝟙
      → eval R (length xs) (locator R xs) y ≡ 𝟘
  locator-root [] y i h e = absurd (not-suc-le-zero h)
  locator-root (x ∷ xs) y zero h e =
      eval-locator x xs y
      ∙ solve R (x ∷ y ∷ eval R (length xs) (locator R xs) y ∷ [])
      (λ a b v. :neg v :× a :· b :≡ :1 :⇒ (:1 :- a :· b) :· v := :0) tt e
  locator-root (x ∷ xs) y (suc i) h e =
      eval-locator x xs y ∙ ap (λ z. (𝟙 ⊕ neg (x ⊗ y)) ⊗ z) (locator-root xs y i (le_of_suc-le-suc h) e) ∙ mul-zero R _

module _ (F : Field) where
  open F use {ring as R, inv, mul-inv, one_ne_zero, decide}
  open R use {car, zero as 𝟘, one as 𝟙, add as ◌⊕◌, mul as ◌⊗◌, neg}

  infixl 60 ◌⊕◌
  infixl 70 ◌⊗◌
  locator_top : (xs : List car) → Nonzero R (length xs) (λ i. get_or xs i 𝟘) → locator R xs (length xs) ≢ 𝟘
  locator_top [] n e = one_ne_zero (sym (locator-constant R []) ∙ e)
  locator_top (x ∷ xs) n e =
      locator_top xs (λ i h. n (suc i) (suc-le-suc h))
      (no-zero_divisors F x (locator R xs m) (n 0 (omega arith))
      (solve R (locator R (x ∷ xs) (suc m) ∷ locator R xs (suc m) ∷ x ∷ locator R xs m ∷ [])
      (λ t u a v. :1 :× t :≡ u :- a :· v :⇒ :neg :1 :× t :≡ :0 :⇒ :1 :× u :≡ :0 :⇒ a :· v := :0) tt
      (ap (λ f. f (suc m)) (locator_cons R x xs) ∙ factor-suc R x (locator R xs) m) e
      (locator_degree R xs (suc m) (lt-suc_self m))))
    where
      m : ℕ
      m = length xs

  pub locator-roots-only : (xs : List car) (y : car) → eval R (length xs) (locator R xs) y ≡ 𝟘
      → (i : ℕ) × (i < length xs) × (get_or xs i 𝟘 ⊗ y ≡ 𝟙)
  locator-roots-only [] y e = absurd (one_ne_zero (sym (locator-constant R []) ∙ sym (eval-constant R (locator R []) y) ∙ e))
  locator-roots-only (x ∷ xs) y e = elim (decide (x ⊗ y) 𝟙) [
    | yes root ↦ (0, omega arith, root)
    | no other ↦ later (locator-roots-only xs y
        (no-zero_divisors F (𝟙 ⊕ neg (x ⊗ y)) (eval R (length xs) (locator R xs) y)
        (difference_nonzero F 𝟙 (x ⊗ y) (λ q. other (sym q))) (sym (eval-locator R x xs y) ∙ e)))
  ]
    where
      later : (i : ℕ) × (i < length xs) × (get_or xs i 𝟘 ⊗ y ≡ 𝟙)
          → (i : ℕ) × (i < suc (length xs)) × (get_or (x ∷ xs) i 𝟘 ⊗ y ≡ 𝟙)
      later r = (suc r.0, suc-le-suc r.1, r.2)

  pub inverses_distinct : (m : ℕ) (X : ℕ → car) → Distinct R m X → Nonzero R m X → Distinct R m (λ i. inv (X i))
  inverses_distinct m X d n i j hi hj e = d i j hi hj (inv_injective F (X i) (X j) (n i hi) (n j hj) e)
