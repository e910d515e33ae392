-- The locator polynomial does not depend on the order of its factors, so that any of them may be taken out, and a column added last.
use mathlib.Core.Path.{◌≡◌, refl, sym, ap, fun_ext, ◌∙◌}
use mathlib.Core.List.{List, [], ◌∷◌, ◌++◌, append-nil, map}
use Prim.Native.Nat.{ℕ, zero, suc}
use Rattle.algebra.specs.Locator.{factor, locator}
use Rattle.algebra.specs.Ring.{CRing}
use Rattle.algebra.proofs.LocatorLaws.{locator_cons}
use Rattle.algebra.proofs.Solver.{◌:-◌, ◌:·◌, ◌:=◌, solve}

module _ (R : CRing) where
  open R use {car, add as ◌⊕◌, mul as ◌⊗◌, neg}

  infixl 60 ◌⊕◌
  infixl 70 ◌⊗◌
  commute_at : (x y : car) (f : ℕ → car) (k : ℕ) → factor R x (factor R y f) k ≡ factor R y (factor R x f) k
  unfolding factor
  commute_at x y f zero = refl
  commute_at x y f (suc zero) =
      solve R (x ∷ y ∷ f 0 ∷ f 1 ∷ []) (λ a b u v. v :- b :· u :- a :· u := v :- a :· u :- b :· u) tt
  commute_at x y f (suc (suc k)) =
      solve R (x ∷ y ∷ f k ∷ f (suc k) ∷ f (suc (suc k)) ∷ [])
      (λ a b u v w. w :- b :· v :- a :· (v :- b :· u) := w :- a :· v :- b :· (v :- a :· u)) tt

  module _ (X : ℕ → car) where
    pub locator-middle : (is : List ℕ) (i : ℕ) (js : List ℕ) → locator R (map X (is ++ i ∷ js)) ≡ factor R (X i) (locator R (map X (is ++ js)))
    locator-middle [] i js = locator_cons R (X i) (map X js)
    locator-middle (k ∷ is) i js =
        locator_cons R (X k) (map X (is ++ i ∷ js)) ∙ ap (factor R (X k)) (locator-middle is i js)
        ∙ fun_ext (commute_at (X k) (X i) (locator R (map X (is ++ js))))
        ∙ ap (factor R (X i)) (sym (locator_cons R (X k) (map X (is ++ js))))

    pub locator-last : (is : List ℕ) (i : ℕ) → locator R (map X (is ++ i ∷ [])) ≡ factor R (X i) (locator R (map X is))
    locator-last is i = locator-middle is i [] ∙ ap (λ l. factor R (X i) (locator R (map X l))) (append-nil is)
