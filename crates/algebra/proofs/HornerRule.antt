-- Horner's rule from the constant coefficient on: what it has after coefficient k, at x, is the value at the inverse of x times a power of x.
use mathlib.Core.Path.{◌≡◌, sym, ap, ap₂, ◌∙◌}
use mathlib.Core.List.{[], ◌∷◌}
use Prim.Native.Nat.{ℕ, zero, suc}
use Rattle.algebra.specs.Ring.{CRing}
use Rattle.algebra.specs.Sum.{pow}
use Rattle.algebra.specs.Polynomial.{eval}
use Rattle.algebra.proofs.Evaluation.{eval-sum, pow-inverse}
use Rattle.algebra.proofs.EvalLaws.{eval-constant}
use Rattle.algebra.proofs.Powers.{pow-zero, pow-suc}
use Rattle.algebra.proofs.RingLaws.{one-mul}
use Rattle.algebra.proofs.Solver.{:1, ◌:+◌, :neg, ◌:·◌, ◌:=◌, ◌:×◌:≡◌:⇒◌, solve}
use Rattle.algebra.proofs.Sums.{sum-suc}

module _ (R : CRing) where
  open R use {car, one as 𝟙, add as ◌⊕◌, mul as ◌⊗◌}

  infixl 60 ◌⊕◌
  infixl 70 ◌⊗◌
  module _ (f c : ℕ → car) (x y : car) (inverse : x ⊗ y ≡ 𝟙) (first : c 0 ≡ f 0) (next : (k : ℕ) → c (suc k) ≡ f (suc k) ⊕ x ⊗ c k) where
    eval-suc : (k : ℕ) → eval R (suc k) f y ≡ eval R k f y ⊕ f (suc k) ⊗ pow R y (suc k)
    eval-suc k =
        eval-sum R (suc k) f y ∙ sum-suc R (suc k) (λ i. f i ⊗ pow R y i) ∙ ap (λ z. z ⊕ f (suc k) ⊗ pow R y (suc k)) (sym (eval-sum R k f y))

    pub horner : (k : ℕ) → c k ≡ pow R x k ⊗ eval R k f y
    horner zero = first ∙ sym (ap₂ ◌⊗◌ (pow-zero R x) (eval-constant R f y) ∙ one-mul R (f 0))
    horner (suc k) =
        next k ∙ ap (λ z. f (suc k) ⊕ x ⊗ z) (horner k)
        ∙ solve R (f (suc k) ∷ x ∷ pow R x k ∷ eval R k f y ∷ pow R y (suc k) ∷ [])
        (λ a x p e y. :neg a :× p :· x :· y :≡ :1 :⇒ a :+ x :· (p :· e) := p :· x :· (e :+ a :· y)) tt
        (ap (λ z. z ⊗ pow R y (suc k)) (sym (pow-suc R x k)) ∙ pow-inverse R x y inverse (suc k))
        ∙ sym (ap₂ ◌⊗◌ (pow-suc R x k) (eval-suc k))
