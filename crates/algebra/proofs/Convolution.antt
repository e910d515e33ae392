-- Laws of the product of polynomials: linear in each factor, a shifted factor, and a factor of known degree.
use mathlib.Core.Path.{◌≡◌, refl, sym, ap, ap₂, ◌∙◌}
use mathlib.Core.Logic.{if_pos, if_neg}
use Prim.Native.Nat.{ℕ, zero, suc, ◌+◌, ◌-◌, ◌≤◌, ◌<◌}
use native.Mathlib.Decide.{dec_lt}
use native.Mathlib.Omega.{arith}
use Rattle.algebra.specs.Ring.{CRing}
use Rattle.algebra.specs.Sum.{sum}
use Rattle.algebra.specs.Polynomial.{Degree, conv, shift}
use Rattle.algebra.proofs.Sums.{sum_ext, sum_zeros, sum-add, sum-mul, sum-neg, sum-front, sum_back}
use Rattle.algebra.proofs.RingLaws.{zero-mul, add-mul, neg-mul}

module _ (R : CRing) where
  open R use {car, zero as 𝟘, add as ◌⊕◌, mul as ◌⊗◌, neg, mul_assoc, mul-add}

  infixl 60 ◌⊕◌
  infixl 70 ◌⊗◌
  pub conv-sum : (f g : ℕ → car) (m : ℕ) → conv R f g m ≡ sum R (suc m) (λ i. f i ⊗ g (m - i))
  unfolding conv
  conv-sum f g m = refl

  pub conv_ext : (f f' g g' : ℕ → car) (m : ℕ) → ((i : ℕ) → i ≤ m → f i ≡ f' i) → ((i : ℕ) → i ≤ m → g i ≡ g' i)
      → conv R f g m ≡ conv R f' g' m
  conv_ext f f' g g' m ef eg =
      conv-sum f g m
      ∙ sum_ext R (suc m) (λ i. f i ⊗ g (m - i)) (λ i. f' i ⊗ g' (m - i))
      (λ i h. ap₂ ◌⊗◌ (ef i (omega arith)) (eg (m - i) (omega arith)))
      ∙ sym (conv-sum f' g' m)

  pub conv-add : (f f' g : ℕ → car) (m : ℕ) → conv R (λ i. f i ⊕ f' i) g m ≡ conv R f g m ⊕ conv R f' g m
  conv-add f f' g m =
      conv-sum (λ i. f i ⊕ f' i) g m
      ∙ sum_ext R (suc m) (λ i. (f i ⊕ f' i) ⊗ g (m - i)) (λ i. f i ⊗ g (m - i) ⊕ f' i ⊗ g (m - i))
      (λ i h. add-mul R (f i) (f' i) (g (m - i)))
      ∙ sum-add R (suc m) (λ i. f i ⊗ g (m - i)) (λ i. f' i ⊗ g (m - i))
      ∙ sym (ap₂ ◌⊕◌ (conv-sum f g m) (conv-sum f' g m))

  pub conv-mul : (c : car) (f g : ℕ → car) (m : ℕ) → conv R (λ i. c ⊗ f i) g m ≡ c ⊗ conv R f g m
  conv-mul c f g m =
      conv-sum (λ i. c ⊗ f i) g m
      ∙ sum_ext R (suc m) (λ i. c ⊗ f i ⊗ g (m - i)) (λ i. c ⊗ (f i ⊗ g (m - i))) (λ i h. mul_assoc c (f i) (g (m - i)))
      ∙ sum-mul R (suc m) c (λ i. f i ⊗ g (m - i)) ∙ sym (ap (λ x. c ⊗ x) (conv-sum f g m))

  conv-neg : (f g : ℕ → car) (m : ℕ) → conv R (λ i. neg (f i)) g m ≡ neg (conv R f g m)
  conv-neg f g m =
      conv-sum (λ i. neg (f i)) g m
      ∙ sum_ext R (suc m) (λ i. neg (f i) ⊗ g (m - i)) (λ i. neg (f i ⊗ g (m - i))) (λ i h. neg-mul R (f i) (g (m - i)))
      ∙ sum-neg R (suc m) (λ i. f i ⊗ g (m - i)) ∙ sym (ap neg (conv-sum f g m))

  pub conv-sub : (f f' g : ℕ → car) (m : ℕ) → conv R (λ i. f i ⊕ neg (f' i)) g m ≡ conv R f g m ⊕ neg (conv R f' g m)
  conv-sub f f' g m = conv-add f (λ i. neg (f' i)) g m ∙ ap (λ x. conv R f g m ⊕ x) (conv-neg f' g m)

  pub conv-add-right : (f g g' : ℕ → car) (m : ℕ) → conv R f (λ i. g i ⊕ g' i) m ≡ conv R f g m ⊕ conv R f g' m
  conv-add-right f g g' m =
      conv-sum f (λ i. g i ⊕ g' i) m
      ∙ sum_ext R (suc m) (λ i. f i ⊗ (g (m - i) ⊕ g' (m - i))) (λ i. f i ⊗ g (m - i) ⊕ f i ⊗ g' (m - i))
      (λ i h. mul-add (f i) (g (m - i)) (g' (m - i)))
      ∙ sum-add R (suc m) (λ i. f i ⊗ g (m - i)) (λ i. f i ⊗ g' (m - i))
      ∙ sym (ap₂ ◌⊕◌ (conv-sum f g m) (conv-sum f g' m))

  pub conv-zero : (f g : ℕ → car) (m : ℕ) → ((i : ℕ) → i ≤ m → f i ≡ 𝟘) → conv R f g m ≡ 𝟘
  conv-zero f g m e =
      conv-sum f g m
      ∙ sum_zeros R (suc m) (λ i. f i ⊗ g (m - i))
      (λ i h. ap (λ x. x ⊗ g (m - i)) (e i (omega arith)) ∙ zero-mul R (g (m - i)))

  -- a first factor of degree at most l: l + 1 terms
  pub conv_degree : (l : ℕ) (f g : ℕ → car) (m : ℕ) → Degree R l f → l ≤ m
      → conv R f g m ≡ sum R (suc l) (λ i. f i ⊗ g (m - i))
  conv_degree l f g m d h =
      conv-sum f g m
      ∙ ap (λ k. sum R k (λ i. f i ⊗ g (m - i))) (let q : suc m ≡ suc l + (m - l) = omega arith in q)
      ∙ sum-front R (suc l) (m - l) (λ i. f i ⊗ g (m - i))
      (λ i _. ap (λ x. x ⊗ g (m - (suc l + i))) (d (suc l + i) (omega arith)) ∙ zero-mul R (g (m - (suc l + i))))

  pub shift-below : (e : ℕ) (f : ℕ → car) (i : ℕ) → i < e → shift R e f i ≡ 𝟘
  unfolding shift
  shift-below e f i h = if_pos (dec_lt i e) h 𝟘 (f (i - e))

  pub shift-above : (e : ℕ) (f : ℕ → car) (i : ℕ) → e ≤ i → shift R e f i ≡ f (i - e)
  unfolding shift
  shift-above e f i h = if_neg (dec_lt i e) (omega arith) 𝟘 (f (i - e))

  -- a polynomial without constant term is the variable times another
  pub shift-tail : (f : ℕ → car) → f 0 ≡ 𝟘 → (i : ℕ) → shift R 1 (λ j. f (suc j)) i ≡ f i
  shift-tail f z zero = shift-below 1 (λ j. f (suc j)) 0 (omega arith) ∙ sym z
  shift-tail f z (suc i) =
      shift-above 1 (λ j. f (suc j)) (suc i) (omega arith) ∙ ap f (let q : suc (suc i - 1) ≡ suc i = omega arith in q)

  pub shift-zeros : (e : ℕ) (f : ℕ → car) → ((i : ℕ) → f i ≡ 𝟘) → (i : ℕ) → shift R e f i ≡ 𝟘
  shift-zeros e f z i = go (dec_lt i e)
    where
      go : Dec (i < e) → shift R e f i ≡ 𝟘
      go (yes h) = shift-below e f i h
      go (no h) = shift-above e f i (omega arith) ∙ z (i - e)

  pub shift_degree : (e l : ℕ) (f : ℕ → car) → Degree R l f → Degree R (l + e) (shift R e f)
  shift_degree e l f d i h = shift-above e f i (omega arith) ∙ d (i - e) (omega arith)

  pub conv-shift : (e : ℕ) (f g : ℕ → car) (m : ℕ) → e ≤ m → conv R (shift R e f) g m ≡ conv R f g (m - e)
  conv-shift e f g m h =
      conv-sum (shift R e f) g m
      ∙ ap (λ k. sum R k (λ i. shift R e f i ⊗ g (m - i))) (let q : suc m ≡ e + suc (m - e) = omega arith in q)
      ∙ sum_back R e (suc (m - e)) (λ i. shift R e f i ⊗ g (m - i))
      (λ i l. ap (λ x. x ⊗ g (m - i)) (shift-below e f i l) ∙ zero-mul R (g (m - i)))
      ∙ sum_ext R (suc (m - e)) (λ i. shift R e f (e + i) ⊗ g (m - (e + i))) (λ i. f i ⊗ g (m - e - i))
      (λ i l. ap₂ ◌⊗◌ (shift-above e f (e + i) (omega arith) ∙ ap f (let q : e + i - e ≡ i = omega arith in q))
      (ap g (let q : m - (e + i) ≡ m - e - i = omega arith in q)))
      ∙ sym (conv-sum f g (m - e))
