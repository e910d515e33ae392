-- The ordered sequences are a permutation of those given, falling and stable, and no other list is all of this. So what Algorithm 4 finds is found on the
-- sequences in their one order.
use mathlib.Core.Path.{◌≡◌, refl, sym, ap, ap₂, ◌∙◌}
use mathlib.Core.Bool.{Bool, true, false, cond}
use mathlib.Core.List.{List, [], ◌∷◌}
use Prim.Native.Nat.{ℕ, ◌≤◌}
use native.Mathlib.Nat.{le_antisymm, le_refl}
use native.Mathlib.Omega.{arith}
use lib.Dec.{eqb}
use lib.ListN.{length}
use borrow.Author.Tests.{eq-eqb, eqb-true}
use Rattle.register.specs.Algorithm4.{found}
use Rattle.register.specs.Order.{Permutation, Falling, of_length, Ordered, InOrder}
use Rattle.register.specs.Sequences.{placed, ordered}
use Rattle.register.proofs.Cases.{cond_cases}
use Rattle.register.proofs.Ordering.{All, all_cons, all_rest, placed_cases, falling-rest, falling-first, falling-ordered}
use Rattle.register.proofs.Stable.{of_length-ordered}

-- ---- the ordered sequences

permuted_placed : (s : List ℕ) (xs : List (List ℕ)) → Permutation (s ∷ xs) (placed s xs)
unfolding placed
permuted_placed s [] = Permutation.after s Permutation.none
permuted_placed s (x ∷ xs) =
    placed_cases (Permutation (s ∷ x ∷ xs)) s x xs
    (λ _. permuted_same (s ∷ x ∷ xs))
    (λ _. Permutation.through (Permutation.exchanged s x xs) (Permutation.after x (permuted_placed s xs)))
  where
    permuted_same : (ss : List (List ℕ)) → Permutation ss ss
    permuted_same [] = Permutation.none
    permuted_same (y ∷ ys) = Permutation.after y (permuted_same ys)

permuted_ordered : (ss : List (List ℕ)) → Permutation ss (ordered ss)
unfolding ordered
permuted_ordered [] = Permutation.none
permuted_ordered (s ∷ ss) = Permutation.through (Permutation.after s (permuted_ordered ss)) (permuted_placed s (ordered ss))

is-ordered : (ss : List (List ℕ)) → Ordered ss (ordered ss)
is-ordered ss = record { permutation = permuted_ordered ss; falling = falling-ordered ss; stable = λ k. of_length-ordered k ss }

-- ---- no other

no-first : {x : List ℕ} {xs : List (List ℕ)} → [] ≡ x ∷ xs → ⊥
no-first e = let z : ◌≡◌ {A = ℕ} 0 1 = cc in omega arith

same_first : {x y : List ℕ} {xs ys : List (List ℕ)} → x ∷ xs ≡ y ∷ ys → (x ≡ y) × (xs ≡ ys)
same_first e = (cc, cc)

first_of_its_length : (x : List ℕ) (xs : List (List ℕ)) → of_length (length x) (x ∷ xs) ≡ x ∷ of_length (length x) xs
unfolding of_length
first_of_its_length x xs = ap (λ b. cond b (x ∷ of_length (length x) xs) (of_length (length x) xs)) (eq-eqb (length x) (length x) refl)

some_of_its_length : (x : List ℕ) (xs : List (List ℕ)) → of_length (length x) [] ≡ of_length (length x) (x ∷ xs) → ⊥
unfolding of_length
some_of_its_length x xs e = no-first (e ∙ first_of_its_length x xs)

-- what bounds all lengths bounds a length that some sequence has
length-bounded : (k b : ℕ) (xs : List (List ℕ)) {x : List ℕ} {rest : List (List ℕ)} → All (λ y. length y ≤ b) xs → of_length k xs ≡ x ∷ rest → k ≤ b
unfolding of_length
length-bounded k b [] bound = λ e. absurd (no-first e)
length-bounded k b (y ∷ ys) {x} {rest} bound =
    cond_cases (λ (l : List (List ℕ)). l ≡ x ∷ rest → k ≤ b) (eqb (length y) k) (y ∷ of_length k ys) (of_length k ys)
    (λ is _. omega (arith, bound 0 (omega arith), eqb-true (length y) k is))
    (λ _ e. length-bounded k b ys (all_rest (λ y. length y ≤ b) y ys bound) e)

-- the first of falling sequences is as long as every sequence there is
first-longest : (x y : List ℕ) (xs ys : List (List ℕ)) → Falling (y ∷ ys) → of_length (length x) (y ∷ ys) ≡ of_length (length x) (x ∷ xs) → length x ≤ length y
first-longest x y xs ys falling e =
    length-bounded (length x) (length y) (y ∷ ys) (all_cons (λ z. length z ≤ length y) y ys (le_refl (length y)) (falling-first y ys falling))
    (e ∙ first_of_its_length x xs)

rest-same : (k : ℕ) (x y : List ℕ) (xs ys : List (List ℕ)) → y ≡ x → of_length k (y ∷ ys) ≡ of_length k (x ∷ xs) → of_length k ys ≡ of_length k xs
unfolding of_length
rest-same k x y xs ys same e = pick (eqb (length x) k) (ap (λ (z : List ℕ). cond (eqb (length z) k) (z ∷ of_length k ys) (of_length k ys)) (sym same) ∙ e)
  where
    pick : (t : Bool) → cond t (x ∷ of_length k ys) (of_length k ys) ≡ cond t (x ∷ of_length k xs) (of_length k xs) → of_length k ys ≡ of_length k xs
    pick true e = (same_first e).1
    pick false e = e

only_one : (os ts : List (List ℕ)) → Falling os → Falling ts → ((k : ℕ) → of_length k ts ≡ of_length k os) → ts ≡ os
only_one [] [] f g same = refl
only_one [] (y ∷ ys) f g same = absurd (some_of_its_length y ys (sym (same (length y))))
only_one (x ∷ xs) [] f g same = absurd (some_of_its_length x xs (same (length x)))
only_one (x ∷ xs) (y ∷ ys) f g same =
    let long : length y ≡ length x =
    le_antisymm (first-longest y x ys xs f (sym (same (length y)))) (first-longest x y xs ys g (same (length x))) in
    let first : y ≡ x =
    (same_first (sym (first_of_its_length y ys) ∙ ap (λ (k : ℕ). of_length k (y ∷ ys)) long ∙ same (length x) ∙ first_of_its_length x xs)).0 in
    ap₂ ◌∷◌ first (only_one xs ys (falling-rest x xs f) (falling-rest y ys g) (λ k. rest-same k x y xs ys first (same k)))

pub in_order : InOrder
unfolding found
in_order p ss n =
    record {
      order = ordered ss;
      ordered = is-ordered ss;
      only = λ os o. only_one (ordered ss) os (falling-ordered ss) o.falling (λ k. o.stable k ∙ sym (of_length-ordered k ss));
      size = refl;
      taps = refl;
    }
