-- The product with the locator polynomial of two lists together is the product with that of the second, and then with that of the first.
use mathlib.Core.Path.{◌≡◌, refl, sym, ap, ap₂, ◌∙◌}
use mathlib.Core.List.{List, [], ◌∷◌, ◌++◌}
use Prim.Native.Nat.{ℕ, zero, suc, ◌-◌, ◌≤◌}
use native.Mathlib.Omega.{arith}
use Rattle.algebra.specs.Locator.{unit, factor, locator}
use Rattle.algebra.specs.Polynomial.{Degree, conv, shift}
use Rattle.algebra.specs.Ring.{CRing}
use Rattle.algebra.proofs.Convolution.{conv_ext, conv-sub, conv-mul, conv-shift, conv_degree, shift-below, shift-above}
use Rattle.algebra.proofs.Solver.{:0, :1, ◌:+◌, ◌:-◌, ◌:·◌, ◌:=◌, solve}
use Rattle.algebra.proofs.Sums.{sum-suc, sum-zero}

module _ (R : CRing) where
  open R use {car, zero as 𝟘, one as 𝟙, add as ◌⊕◌, mul as ◌⊗◌, neg}

  infixl 60 ◌⊕◌
  infixl 70 ◌⊗◌
  unit-product : (g : ℕ → car) (m : ℕ) → conv R (unit R) g m ≡ g m
  unfolding unit
  unit-product g m =
      conv_degree R 0 (unit R) g m above (omega arith)
      ∙ sum-suc R 0 _ ∙ ap (λ x. x ⊕ 𝟙 ⊗ g (m - 0)) (sum-zero R _)
      ∙ solve R (g (m - 0) ∷ []) (λ a. :0 :+ :1 :· a := a) tt ∙ ap g (let e : m - 0 ≡ m = omega arith in e)
    where
      above : Degree R 0 (unit R)
      above zero h = absurd (let z : ⊥ = omega arith in z)
      above (suc i) h = refl

  shifted : (x : car) (f : ℕ → car) (i : ℕ) → factor R x f i ≡ f i ⊕ neg (x ⊗ shift R 1 f i)
  unfolding factor
  shifted x f zero =
      solve R (x ∷ f 0 ∷ []) (λ a u. u := u :- a :· :0) tt ∙ ap (λ y. f 0 ⊕ neg (x ⊗ y)) (sym (shift-below R 1 f 0 (omega arith)))
  shifted x f (suc i) =
      ap (λ y. f (suc i) ⊕ neg (x ⊗ y)) (ap f (let e : i ≡ suc i - 1 = omega arith in e) ∙ sym (shift-above R 1 f (suc i) (omega arith)))

  parts : (x : car) (f g : ℕ → car) (m : ℕ) → conv R (factor R x f) g m ≡ conv R f g m ⊕ neg (x ⊗ conv R (shift R 1 f) g m)
  parts x f g m =
      conv_ext R (factor R x f) (λ i. f i ⊕ neg (x ⊗ shift R 1 f i)) g g m (λ i _. shifted x f i) (λ _ _. refl)
      ∙ conv-sub R f (λ i. x ⊗ shift R 1 f i) g m ∙ ap (λ y. conv R f g m ⊕ neg y) (conv-mul R x (shift R 1 f) g m)

  factor-product : (x : car) (f g : ℕ → car) (m : ℕ) → conv R (factor R x f) g (suc m) ≡ conv R f g (suc m) ⊕ neg (x ⊗ conv R f g m)
  factor-product x f g m =
      parts x f g (suc m)
      ∙ ap (λ y. conv R f g (suc m) ⊕ neg (x ⊗ y)) (conv-shift R 1 f g (suc m) (omega arith) ∙ ap (conv R f g) (let e : suc m - 1 ≡ m = omega arith in e))

  factor-first : (x : car) (f g : ℕ → car) → conv R (factor R x f) g 0 ≡ conv R f g 0
  factor-first x f g = conv_ext R (factor R x f) f g g 0 first (λ _ _. refl)
    where
      first : (i : ℕ) → i ≤ 0 → factor R x f i ≡ f i
      first zero _ = shifted x f 0 ∙ ap (λ y. f 0 ⊕ neg (x ⊗ y)) (shift-below R 1 f 0 (omega arith)) ∙ solve R (x ∷ f 0 ∷ []) (λ a u. u :- a :· :0 := u) tt
      first (suc i) few = absurd (let z : ⊥ = omega arith in z)

  pub locator-append : (xs ys : List car) (g : ℕ → car) (m : ℕ) → conv R (locator R (xs ++ ys)) g m ≡ conv R (locator R xs) (conv R (locator R ys) g) m
  unfolding locator
  locator-append [] ys g m = sym (unit-product (conv R (locator R ys) g) m)
  locator-append (x ∷ xs) ys g zero =
      factor-first x (locator R (xs ++ ys)) g ∙ locator-append xs ys g 0 ∙ sym (factor-first x (locator R xs) (conv R (locator R ys) g))
  locator-append (x ∷ xs) ys g (suc m) =
      factor-product x (locator R (xs ++ ys)) g m
      ∙ ap₂ (λ a b. a ⊕ neg (x ⊗ b)) (locator-append xs ys g (suc m)) (locator-append xs ys g m)
      ∙ sym (factor-product x (locator R xs) (conv R (locator R ys) g) m)
