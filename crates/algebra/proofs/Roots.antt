-- The number of roots: a polynomial of degree at most l with more than l distinct roots is 0, and two with constant term 1
-- and l distinct common roots are equal.
-- For each k there are weights whose power sums over the roots are 0 but at k (Vandermonde); the weighted sum of the
-- polynomial's values at the roots is then its coefficient k.
use mathlib.Core.Path.{◌≡◌, refl, sym, ap, ap₂, ◌∙◌}
use mathlib.Core.Logic.{◌≢◌, ite, if_pos, if_neg}
use Prim.Native.Nat.{ℕ, suc, ◌<◌}
use native.Mathlib.Decide.{dec_lt, ℕ_discrete}
use native.Mathlib.Omega.{arith}
use Rattle.algebra.specs.Ring.{Field}
use Rattle.algebra.specs.Sum.{sum, pow}
use Rattle.algebra.specs.Polynomial.{Degree, eval}
use Rattle.algebra.specs.Locator.{Distinct, Nonzero}
use Rattle.algebra.proofs.Sums.{sum_ext, sum_zeros, sum-mul, sum_swap, sum_single}
use Rattle.algebra.proofs.Evaluation.{eval-sum}
use Rattle.algebra.proofs.EvalLaws.{eval_sub, eval-at-zero}
use Rattle.algebra.proofs.RingLaws.{mul-zero, mul_left_comm, eq_of_sub-zero}
use Rattle.algebra.proofs.Vandermonde.{weights_exist_from-zero}

module _ (F : Field) where
  open F use {ring as R, one_ne_zero}
  open R use {car, zero as 𝟘, one as 𝟙, add as ◌⊕◌, mul as ◌⊗◌, neg, add-neg, mul-one}

  infixl 60 ◌⊕◌
  infixl 70 ◌⊗◌
  -- 1 at k and 0 elsewhere
  only : ℕ → ℕ → car
  only k j = ite (ℕ_discrete j k) 𝟙 𝟘

  only_at : (k : ℕ) → only k k ≡ 𝟙
  unfolding only
  only_at k = if_pos (ℕ_discrete k k) refl _ _

  only_elsewhere : (k j : ℕ) → j ≢ k → only k j ≡ 𝟘
  unfolding only
  only_elsewhere k j n = if_neg (ℕ_discrete j k) n _ _

  pub roots-zero : (l : ℕ) (f Y : ℕ → car) → Degree R l f → Distinct R (suc l) Y
      → ((i : ℕ) → i < suc l → eval R l f (Y i) ≡ 𝟘) → (k : ℕ) → f k ≡ 𝟘
  roots-zero l f Y degree distinct root k = elim (dec_lt l k) [ yes h ↦ degree k h | no n ↦ coefficient (omega arith) ]
    where
      weights : (e : ℕ → car) × ((j : ℕ) → j < suc l → sum R (suc l) (λ i. e i ⊗ pow R (Y i) j) ≡ only k j)
      weights = weights_exist_from-zero F (suc l) Y (only k) distinct

      e : ℕ → car
      e = weights.0

      column : (i : ℕ) → i < suc l → sum R (suc l) (λ j. f j ⊗ (e i ⊗ pow R (Y i) j)) ≡ 𝟘
      column i h =
          sum_ext R (suc l) _ (λ j. e i ⊗ (f j ⊗ pow R (Y i) j)) (λ j _. mul_left_comm R (f j) (e i) (pow R (Y i) j))
          ∙ sum-mul R (suc l) (e i) (λ j. f j ⊗ pow R (Y i) j)
          ∙ ap (λ x. e i ⊗ x) (sym (eval-sum R l f (Y i)) ∙ root i h) ∙ mul-zero R (e i)

      coefficient : k < suc l → f k ≡ 𝟘
      coefficient h =
          sym (mul-one (f k)) ∙ ap (λ x. f k ⊗ x) (sym (only_at k))
          ∙ sym (sum_single R (suc l) k (λ j. f j ⊗ only k j) h
          (λ j _ n. ap (λ x. f j ⊗ x) (only_elsewhere k j n) ∙ mul-zero R (f j)))
          ∙ sum_ext R (suc l) _ (λ j. sum R (suc l) (λ i. f j ⊗ (e i ⊗ pow R (Y i) j)))
          (λ j l'. ap (λ x. f j ⊗ x) (sym (weights.1 j l')) ∙ sym (sum-mul R (suc l) (f j) (λ i. e i ⊗ pow R (Y i) j)))
          ∙ sum_swap R (suc l) (suc l) (λ j i. f j ⊗ (e i ⊗ pow R (Y i) j))
          ∙ sum_zeros R (suc l) _ column

  -- the first l of Y and then 0
  and_zero : ℕ → (ℕ → car) → ℕ → car
  and_zero l Y i = ite (dec_lt i l) (Y i) 𝟘

  and-zero-below : (l : ℕ) (Y : ℕ → car) (i : ℕ) → i < l → and_zero l Y i ≡ Y i
  unfolding and_zero
  and-zero-below l Y i h = if_pos (dec_lt i l) h _ _

  and-zero-last : (l : ℕ) (Y : ℕ → car) → and_zero l Y l ≡ 𝟘
  unfolding and_zero
  and-zero-last l Y = if_neg (dec_lt l l) (omega arith) _ _

  and-zero_distinct : (l : ℕ) (Y : ℕ → car) → Distinct R l Y → Nonzero R l Y → Distinct R (suc l) (and_zero l Y)
  and-zero_distinct l Y d z i j hi hj e = by_cases (dec_lt i l) (dec_lt j l)
    where
      apart : (i j : ℕ) → i < l → j < suc l → ¬ (j < l) → and_zero l Y i ≡ and_zero l Y j → i ≡ j
      apart i j b h n e =
          absurd (z i b (sym (and-zero-below l Y i b) ∙ e ∙ ap (and_zero l Y) (omega arith) ∙ and-zero-last l Y))

      by_cases : Dec (i < l) → Dec (j < l) → i ≡ j
      by_cases (yes bi) (yes bj) = d i j bi bj (sym (and-zero-below l Y i bi) ∙ e ∙ and-zero-below l Y j bj)
      by_cases (yes bi) (no nj) = apart i j bi hj nj e
      by_cases (no ni) (yes bj) = sym (apart j i bj hi ni (sym e))
      by_cases (no ni) (no nj) = omega arith

  pub roots_unique : (l : ℕ) (f g Y : ℕ → car) → Degree R l f → Degree R l g → f 0 ≡ 𝟙 → g 0 ≡ 𝟙 → Distinct R l Y
      → ((i : ℕ) → i < l → eval R l f (Y i) ≡ 𝟘) → ((i : ℕ) → i < l → eval R l g (Y i) ≡ 𝟘)
      → (k : ℕ) → f k ≡ g k
  roots_unique l f g Y df dg f0 g0 distinct rf rg k =
      eq_of_sub-zero R (f k) (g k)
      (roots-zero l (λ i. f i ⊕ neg (g i)) (and_zero l Y) (λ i h. same-sub (df i h) (dg i h))
      (and-zero_distinct l Y distinct nonzero) root k)
    where
      same-sub : {a b c : car} → a ≡ c → b ≡ c → a ⊕ neg b ≡ 𝟘
      same-sub {c = c} p q = ap₂ (λ x y. x ⊕ neg y) p q ∙ add-neg c

      nonzero : Nonzero R l Y
      nonzero i h z = one_ne_zero (sym f0 ∙ sym (eval-at-zero R l f) ∙ ap (eval R l f) (sym z) ∙ rf i h)

      root : (i : ℕ) → i < suc l → eval R l (λ i. f i ⊕ neg (g i)) (and_zero l Y i) ≡ 𝟘
      root i h =
          eval_sub R l f g (and_zero l Y i)
          ∙ elim (dec_lt i l) [
            | yes b ↦ ap (λ x. eval R l f x ⊕ neg (eval R l g x)) (and-zero-below l Y i b) ∙ same-sub (rf i b) (rg i b)
            | no n ↦ ap (λ x. eval R l f x ⊕ neg (eval R l g x)) (ap (and_zero l Y) (omega arith) ∙ and-zero-last l Y)
                ∙ same-sub (eval-at-zero R l f ∙ f0) (eval-at-zero R l g ∙ g0)
          ]
