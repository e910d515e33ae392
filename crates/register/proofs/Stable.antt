-- Sequences of equal length keep the order given: those of length k, taken out of the ordered sequences, stand as they stood before. That this and
-- `falling-ordered` fix the order is proved in InOrder.antt.
use mathlib.Core.Path.{◌≡◌, refl, sym, ap, ◌∙◌}
use mathlib.Core.Bool.{Bool, true, false, cond}
use mathlib.Core.List.{List, [], ◌∷◌}
use Prim.Native.Nat.{ℕ, ◌<◌}
use native.Mathlib.Omega.{arith}
use lib.Dec.{eqb}
use lib.ListN.{length}
use borrow.Author.Tests.{eqb-true}
use Rattle.register.specs.Order.{of_length}
use Rattle.register.specs.Sequences.{placed, ordered}
use Rattle.register.proofs.Ordering.{placed_cases}

module _ (k : ℕ) where
  of_length_cons : (s : List ℕ) (ss : List (List ℕ)) → of_length k (s ∷ ss) ≡ cond (eqb (length s) k) (s ∷ of_length k ss) (of_length k ss)
  unfolding of_length
  of_length_cons s ss = refl

  -- sequences of different length may change places
  swapped : (s x : List ℕ) (xs : List (List ℕ)) → length s < length x → of_length k (x ∷ s ∷ xs) ≡ of_length k (s ∷ x ∷ xs)
  unfolding of_length
  swapped s x xs lt = pick (eqb (length x) k) (eqb (length s) k) refl refl
    where
      pick : (a b : Bool) → eqb (length x) k ≡ a → eqb (length s) k ≡ b
          → cond a (x ∷ cond b (s ∷ of_length k xs) (of_length k xs)) (cond b (s ∷ of_length k xs) (of_length k xs))
          ≡ cond b (s ∷ cond a (x ∷ of_length k xs) (of_length k xs)) (cond a (x ∷ of_length k xs) (of_length k xs))
      pick true true e f = absurd (let z : ⊥ = omega (arith, eqb-true (length x) k e, eqb-true (length s) k f) in z)
      pick true false e f = refl
      pick false true e f = refl
      pick false false e f = refl

  of_length-placed : (s : List ℕ) (xs : List (List ℕ)) → of_length k (placed s xs) ≡ of_length k (s ∷ xs)
  unfolding placed
  of_length-placed s [] = refl
  of_length-placed s (x ∷ xs) =
      placed_cases (λ l. of_length k l ≡ of_length k (s ∷ x ∷ xs)) s x xs (λ _. refl)
      (λ lt.
      of_length_cons x (placed s xs)
      ∙ ap (λ l. cond (eqb (length x) k) (x ∷ l) l) (of_length-placed s xs)
      ∙ sym (of_length_cons x (s ∷ xs))
      ∙ swapped s x xs lt)

  pub of_length-ordered : (ss : List (List ℕ)) → of_length k (ordered ss) ≡ of_length k ss
  unfolding ordered
  of_length-ordered [] = refl
  of_length-ordered (s ∷ ss) =
      of_length-placed s (ordered ss)
      ∙ of_length_cons s (ordered ss)
      ∙ ap (λ l. cond (eqb (length s) k) (s ∷ l) l) (of_length-ordered ss)
      ∙ sym (of_length_cons s ss)
