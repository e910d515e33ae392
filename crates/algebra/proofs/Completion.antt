-- Weights in closed form: the weights of m distinct nonzero elements X i for which the power sums at m exponents, following one another from any
-- start b, take given values s j. The locator polynomial of all X but X k vanishes at the inverses of the others, so its product with s leaves the part of
-- X k alone; that weights exist is Vandermonde's.
use mathlib.Core.Path.{◌≡◌, sym, ap, ◌∙◌}
use mathlib.Core.Logic.{◌≢◌}
use mathlib.Core.List.{List, [], ◌∷◌}
use Prim.Native.Nat.{ℕ, suc, ◌+◌, ◌<◌}
use native.Mathlib.Omega.{arith}
use lib.ListN.{length, get_or}
use Rattle.algebra.specs.Ring.{Field}
use Rattle.algebra.specs.Sum.{sum, pow}
use Rattle.algebra.specs.Polynomial.{Degree, conv, eval}
use Rattle.algebra.specs.Locator.{Distinct, Nonzero, locator}
use Rattle.algebra.proofs.Sums.{sum_ext, sum_single}
use Rattle.algebra.proofs.Powers.{pow-add}
use Rattle.algebra.proofs.RingLaws.{mul-zero, zero-mul}
use Rattle.algebra.proofs.FieldLaws.{mul-cancel, mul-nonzero, inv-nonzero, power-nonzero}
use Rattle.algebra.proofs.Evaluation.{evaluation}
use Rattle.algebra.proofs.LocatorLaws.{locator_degree, locator-root, locator-roots-only}
use Rattle.algebra.proofs.Vandermonde.{weights_exist}
use Rattle.algebra.proofs.Solver.{:1, ◌:·◌, ◌:=◌, ◌:×◌:≡◌:⇒◌, solve}

module _ (F : Field) where
  open F use {ring as R, inv, mul-inv}
  open R use {car, zero as 𝟘, mul as ◌⊗◌, mul_assoc, mul_comm}

  infixl 70 ◌⊗◌
  -- xs is a list of X 0 .. X d without X k: it has d entries, each other X i is among them, and X k is not
  pub record Others (d : ℕ) (X : ℕ → car) (k : ℕ) (xs : List car) : Type 0 where
    pub size : length xs ≡ d
    pub holds : (i : ℕ) → i < suc d → i ≢ k → (p : ℕ) × (p < length xs) × (get_or xs p 𝟘 ≡ X i)
    pub lacks : (p : ℕ) → p < length xs → get_or xs p 𝟘 ≢ X k

  -- what the locator polynomial of the others leaves of the part of x, of weight 1
  abbrev pub scale : (d b : ℕ) (x : car) (xs : List car) → car
  scale d b x xs = pow R x (b + d) ⊗ eval R d (locator R xs) (inv x)

  -- the weight of x
  abbrev pub weight_of : (d b : ℕ) (x : car) (xs : List car) (s : ℕ → car) → car
  weight_of d b x xs s = conv R (locator R xs) s d ⊗ inv (scale d b x xs)

  module _ (d : ℕ) (X : ℕ → car) (distinct : Distinct R (suc d) X) (nonzero : Nonzero R (suc d) X) (others : ℕ → List car)
      (split : (k : ℕ) → k < suc d → Others d X k (others k)) (b : ℕ) (s : ℕ → car) where
    module _ (k : ℕ) (h : k < suc d) where
      abbrev Λ : ℕ → car
      Λ = locator R (others k)

      Λ-degree : Degree R d Λ
      Λ-degree i l = locator_degree R (others k) i (let q = (split k h).size in omega arith)

      Λ-at : (x : car) → eval R d Λ x ≡ eval R (length (others k)) Λ x
      Λ-at x = ap (λ n. eval R n Λ x) (sym (split k h).size)

      Λ-root : (i : ℕ) → i < suc d → i ≢ k → eval R d Λ (inv (X i)) ≡ 𝟘
      Λ-root i l n =
          let place = (split k h).holds i l n in
          Λ-at (inv (X i))
          ∙ locator-root R (others k) (inv (X i)) place.0 place.1 (ap (λ x. x ⊗ inv (X i)) place.2 ∙ mul-inv (X i) (nonzero i l))

      Λ-no-root : eval R d Λ (inv (X k)) ≢ 𝟘
      Λ-no-root e =
          let place = locator-roots-only F (others k) (inv (X k)) (sym (Λ-at (inv (X k))) ∙ e) in
          (split k h).lacks place.0 place.1
          (mul-cancel F (inv (X k)) (get_or (others k) place.0 𝟘) (X k) (inv-nonzero F (X k) (nonzero k h))
          (mul_comm _ _ ∙ place.2 ∙ sym (mul-inv (X k) (nonzero k h)) ∙ mul_comm _ _))

      scale-nonzero : scale d b (X k) (others k) ≢ 𝟘
      scale-nonzero = mul-nonzero F _ _ (power-nonzero F (X k) (nonzero k h) (b + d)) Λ-no-root

      -- weights that solve the equations are given by the closed form
      found : (e : ℕ → car) → ((j : ℕ) → j < suc d → sum R (suc d) (λ i. e i ⊗ pow R (X i) (b + j)) ≡ s j)
          → weight_of d b (X k) (others k) s ≡ e k
      found e solved =
          ap (λ x. x ⊗ inv (scale d b (X k) (others k))) (alone ∙ whole)
          ∙ solve R (e k ∷ scale d b (X k) (others k) ∷ inv (scale d b (X k) (others k)) ∷ []) (λ w c i. w :× c :· i :≡ :1 :⇒ w :· c :· i := w) tt
          (mul-inv (scale d b (X k) (others k)) scale-nonzero)
        where
          started : ℕ → car
          started i = e i ⊗ pow R (X i) b

          part : ℕ → car
          part i = started i ⊗ eval R d Λ (inv (X i)) ⊗ pow R (X i) d

          alone : conv R Λ s d ≡ part k
          alone =
              evaluation R (suc d) d started X (λ i. inv (X i)) Λ s (λ i l. mul-inv (X i) (nonzero i l)) Λ-degree d (omega arith)
              (λ j _ l. sym (solved j (omega arith))
              ∙ sum_ext R (suc d) _ (λ i. started i ⊗ pow R (X i) j) (λ i _. ap (λ x. e i ⊗ x) (pow-add R (X i) b j) ∙ sym (mul_assoc _ _ _)))
              ∙ sum_single R (suc d) k part h (λ i l n.
              ap (λ x. started i ⊗ x ⊗ pow R (X i) d) (Λ-root i l n) ∙ ap (λ x. x ⊗ pow R (X i) d) (mul-zero R (started i)) ∙ zero-mul R _)

          whole : part k ≡ e k ⊗ scale d b (X k) (others k)
          whole =
              solve R (e k ∷ pow R (X k) b ∷ eval R d Λ (inv (X k)) ∷ pow R (X k) d ∷ []) (λ w p v q. w :· p :· v :· q := w :· (p :· q :· v)) tt
              ∙ ap (λ x. e k ⊗ (x ⊗ eval R d Λ (inv (X k)))) (sym (pow-add R (X k) b d))

    pub completion_solves : (j : ℕ) → j < suc d → sum R (suc d) (λ i. weight_of d b (X i) (others i) s ⊗ pow R (X i) (b + j)) ≡ s j
    completion_solves j h =
        let exist = weights_exist F (suc d) X distinct nonzero b s in
        sum_ext R (suc d) _ (λ i. exist.0 i ⊗ pow R (X i) (b + j)) (λ i l. ap (λ x. x ⊗ pow R (X i) (b + j)) (found i l exist.0 exist.1))
        ∙ exist.1 j h
