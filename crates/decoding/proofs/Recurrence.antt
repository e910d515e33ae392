-- Power sums of a word e on the columns 0 .. n − 1, and the polynomials f of degree at most l whose product with them vanishes past l. f does so where it
-- has a root at every column of the word; and where it does so up to N, at least l plus the number of these columns, only then. A sequence that starts with
-- l zeros and has such a polynomial is 0.
use mathlib.Core.Path.{◌≡◌, refl, sym, ap, ◌∙◌}
use mathlib.Core.Bool.{Bool, true, false}
use mathlib.Core.Logic.{◌⊎◌, inl, inr}
use Prim.Native.Nat.{ℕ, zero, suc, ◌+◌, ◌-◌, ◌≤◌, ◌<◌}
use native.Mathlib.Nat.{sub-zero}
use native.Mathlib.Decide.{dec_le}
use native.Mathlib.Omega.{arith}
use Rattle.algebra.specs.Ring.{CRing, Field}
use Rattle.algebra.specs.Sum.{sum, pow}
use Rattle.algebra.specs.Polynomial.{Degree, conv, eval}
use Rattle.algebra.specs.Locator.{Distinct, Nonzero}
use Rattle.algebra.proofs.Convolution.{conv_degree}
use Rattle.algebra.proofs.Evaluation.{evaluation}
use Rattle.algebra.proofs.RingLaws.{zero-mul, mul-zero, one-mul}
use Rattle.algebra.proofs.Sums.{sum_zeros, sum_head}
use Rattle.columns.specs.Listed.{count}
use Rattle.columns.proofs.Listing.{by-test}
use Rattle.decoding.proofs.ColumnRoots.{Roots}
use Rattle.field257.proofs.Words.{Outside, word-zero}

-- the power sum of exponent j of the word e
abbrev pub power_sum : (R : CRing) (n : ℕ) (X e : ℕ → R.car) (j : ℕ) → R.car
power_sum R n X e j = sum R n (λ i. R.mul (e i) (pow R (X i) j))

module _ (F : Field) (n : ℕ) (X : ℕ → F.ring.car) (distinct : Distinct F.ring n X) (nonzero : Nonzero F.ring n X)
    (P : ℕ → Bool) (e : ℕ → F.ring.car) (outside : Outside F.ring n P e) (l : ℕ) (f : ℕ → F.ring.car) (degree : Degree F.ring l f) where
  open F use {ring as R, inv, mul-inv}
  open R use {car, zero as 𝟘, mul as ◌⊗◌}

  infixl 70 ◌⊗◌
  product : (j : ℕ) → l < j → conv R f (power_sum R n X e) j ≡ sum R n (λ i. e i ⊗ eval R l f (inv (X i)) ⊗ pow R (X i) j)
  product j after =
      evaluation R n l e X (λ i. inv (X i)) f (power_sum R n X e) (λ i h. mul-inv (X i) (nonzero i h)) degree j (omega arith) (λ _ _ _. refl)

  part-outside : Outside R n P (λ i. e i ⊗ eval R l f (inv (X i)))
  part-outside i h out = ap (λ x. x ⊗ eval R l f (inv (X i))) (outside i h out) ∙ zero-mul R _

  pub roots_generate : Roots F n X P l f → (j : ℕ) → l < j → conv R f (power_sum R n X e) j ≡ 𝟘
  roots_generate roots j after =
      product j after ∙ sum_zeros R n _ (λ i h. ap (λ x. x ⊗ pow R (X i) j) (part i h (by-test (P i))) ∙ zero-mul R _)
    where
      part : (i : ℕ) → i < n → (P i ≡ true) ⊎ (P i ≡ false) → e i ⊗ eval R l f (inv (X i)) ≡ 𝟘
      part i h (inl mem) = ap (λ x. e i ⊗ x) (roots i h mem) ∙ mul-zero R (e i)
      part i h (inr out) = part-outside i h out

  pub generates-roots : (N : ℕ) → l + count n P ≤ N → ((j : ℕ) → l < j → j ≤ N → conv R f (power_sum R n X e) j ≡ 𝟘)
      → (i : ℕ) → i < n → e i ⊗ eval R l f (inv (X i)) ≡ 𝟘
  generates-roots N long zeros =
      word-zero F n X distinct nonzero P (λ i. e i ⊗ eval R l f (inv (X i))) part-outside (suc l)
      (λ j h. sym (product (suc l + j) (omega arith)) ∙ zeros (suc l + j) (omega arith) (omega arith))

module _ (R : CRing) where
  open R use {car, zero as 𝟘, one as 𝟙, add as ◌⊕◌, mul as ◌⊗◌, add-zero}

  infixl 60 ◌⊕◌
  infixl 70 ◌⊗◌
  pub zeros-go-on : (l N : ℕ) (f T : ℕ → car) → Degree R l f → f 0 ≡ 𝟙 → ((j : ℕ) → 1 ≤ j → j ≤ l → T j ≡ 𝟘)
      → ((j : ℕ) → l < j → j ≤ N → conv R f T j ≡ 𝟘) → (j : ℕ) → 1 ≤ j → j ≤ N → T j ≡ 𝟘
  zeros-go-on l N f T degree constant start products j = up_to j j (omega arith)
    where
      up_to : (b j : ℕ) → j ≤ b → 1 ≤ j → j ≤ N → T j ≡ 𝟘
      up_to zero j low one within = absurd (let z : ⊥ = omega arith in z)
      up_to (suc b) j low one within = elim (dec_le j l) [
        | yes early ↦ start j one early
        | no late ↦
            sym (ap (λ x. x ⊗ T j) constant ∙ one-mul R (T j))
            ∙ sym (ap (λ x. f 0 ⊗ T j ⊕ x) (sum_zeros R l (λ i. f (suc i) ⊗ T (j - suc i))
            (λ i h. ap (λ x. f (suc i) ⊗ x) (up_to b (j - suc i) (omega arith) (omega arith) (omega arith)) ∙ mul-zero R (f (suc i))))
            ∙ add-zero (f 0 ⊗ T j))
            ∙ sym (conv_degree R l f T j degree (omega arith) ∙ sum_head R l (λ i. f i ⊗ T (j - i))
            ∙ ap (λ k. f 0 ⊗ T k ⊕ sum R l (λ i. f (suc i) ⊗ T (j - suc i))) (sub-zero j))
            ∙ products j (omega arith) within
      ]
