-- Laws of finite sums: clauses as equations, equal terms, sums and multiples of sums, exchange, split, one nonzero term.
use mathlib.Core.Path.{◌≡◌, refl, sym, ap, ap₂, ◌∙◌}
use mathlib.Core.Logic.{◌≢◌}
use Prim.Native.Nat.{ℕ, zero, suc, ◌+◌, ◌-◌, ◌<◌}
use native.Mathlib.Nat.{add-zero as n-add-zero, add-suc, lt-suc_self, le_step}
use native.Mathlib.Omega.{arith}
use Rattle.algebra.specs.Ring.{CRing}
use Rattle.algebra.specs.Sum.{sum}
use Rattle.algebra.proofs.RingLaws.{zero-add, mul-zero, add_swap_inner, neg-zero, neg_of_add}

module _ (R : CRing) where
  open R use {car, zero as 𝟘, add as ◌⊕◌, mul as ◌⊗◌, neg, add_assoc, add_comm, add-zero, mul_comm, mul-add}

  infixl 60 ◌⊕◌
  infixl 70 ◌⊗◌
  pub sum-zero : (f : ℕ → car) → sum R 0 f ≡ 𝟘
  unfolding sum
  sum-zero f = refl

  pub sum-suc : (n : ℕ) (f : ℕ → car) → sum R (suc n) f ≡ sum R n f ⊕ f n
  unfolding sum
  sum-suc n f = refl

  -- equal terms below n
  pub sum_ext : (n : ℕ) (f g : ℕ → car) → ((i : ℕ) → i < n → f i ≡ g i) → sum R n f ≡ sum R n g
  sum_ext zero f g e = sum-zero f ∙ sym (sum-zero g)
  sum_ext (suc n) f g e =
      sum-suc n f ∙ ap₂ ◌⊕◌ (sum_ext n f g (λ i l. e i (le_step l))) (e n (lt-suc_self n)) ∙ sym (sum-suc n g)

  pub sum_zeros : (n : ℕ) (f : ℕ → car) → ((i : ℕ) → i < n → f i ≡ 𝟘) → sum R n f ≡ 𝟘
  sum_zeros zero f e = sum-zero f
  sum_zeros (suc n) f e =
      sum-suc n f ∙ ap₂ ◌⊕◌ (sum_zeros n f (λ i l. e i (le_step l))) (e n (lt-suc_self n)) ∙ add-zero 𝟘

  pub sum-add : (n : ℕ) (f g : ℕ → car) → sum R n (λ i. f i ⊕ g i) ≡ sum R n f ⊕ sum R n g
  sum-add zero f g = sum-zero (λ i. f i ⊕ g i) ∙ sym (ap₂ ◌⊕◌ (sum-zero f) (sum-zero g) ∙ add-zero 𝟘)
  sum-add (suc n) f g =
      sum-suc n (λ i. f i ⊕ g i) ∙ ap (λ x. x ⊕ (f n ⊕ g n)) (sum-add n f g)
      ∙ add_swap_inner R (sum R n f) (sum R n g) (f n) (g n) ∙ sym (ap₂ ◌⊕◌ (sum-suc n f) (sum-suc n g))

  pub sum-mul : (n : ℕ) (c : car) (f : ℕ → car) → sum R n (λ i. c ⊗ f i) ≡ c ⊗ sum R n f
  sum-mul zero c f = sum-zero (λ i. c ⊗ f i) ∙ sym (ap (λ x. c ⊗ x) (sum-zero f) ∙ mul-zero R c)
  sum-mul (suc n) c f =
      sum-suc n (λ i. c ⊗ f i) ∙ ap (λ x. x ⊕ c ⊗ f n) (sum-mul n c f)
      ∙ sym (ap (λ x. c ⊗ x) (sum-suc n f) ∙ mul-add c (sum R n f) (f n))

  pub sum-neg : (n : ℕ) (f : ℕ → car) → sum R n (λ i. neg (f i)) ≡ neg (sum R n f)
  sum-neg zero f = sum-zero (λ i. neg (f i)) ∙ sym (ap neg (sum-zero f) ∙ neg-zero R)
  sum-neg (suc n) f =
      sum-suc n (λ i. neg (f i)) ∙ ap (λ x. x ⊕ neg (f n)) (sum-neg n f)
      ∙ sym (ap neg (sum-suc n f) ∙ neg_of_add R (sum R n f) (f n))

  -- the order of two sums does not matter
  pub sum_swap : (m n : ℕ) (f : ℕ → ℕ → car)
      → sum R m (λ i. sum R n (λ j. f i j)) ≡ sum R n (λ j. sum R m (λ i. f i j))
  sum_swap zero n f =
      sum-zero (λ i. sum R n (λ j. f i j))
      ∙ sym (sum_zeros n (λ j. sum R 0 (λ i. f i j)) (λ j _. sum-zero (λ i. f i j)))
  sum_swap (suc m) n f =
      sum-suc m (λ i. sum R n (λ j. f i j))
      ∙ ap (λ x. x ⊕ sum R n (λ j. f m j)) (sum_swap m n f)
      ∙ sym (sum-add n (λ j. sum R m (λ i. f i j)) (λ j. f m j))
      ∙ sym (sum_ext n (λ j. sum R (suc m) (λ i. f i j)) (λ j. sum R m (λ i. f i j) ⊕ f m j) (λ j _. sum-suc m (λ i. f i j)))

  pub sum-split : (m n : ℕ) (f : ℕ → car) → sum R (m + n) f ≡ sum R m f ⊕ sum R n (λ i. f (m + i))
  sum-split m zero f =
      ap (λ k. sum R k f) (n-add-zero m) ∙ sym (ap (λ x. sum R m f ⊕ x) (sum-zero (λ i. f (m + i))) ∙ add-zero (sum R m f))
  sum-split m (suc n) f =
      ap (λ k. sum R k f) (add-suc m n) ∙ sum-suc (m + n) f ∙ ap (λ x. x ⊕ f (m + n)) (sum-split m n f)
      ∙ add_assoc (sum R m f) (sum R n (λ i. f (m + i))) (f (m + n))
      ∙ sym (ap (λ x. sum R m f ⊕ x) (sum-suc n (λ i. f (m + i))))

  pub sum_head : (n : ℕ) (f : ℕ → car) → sum R (suc n) f ≡ f 0 ⊕ sum R n (λ i. f (suc i))
  sum_head zero f =
      sum-suc 0 f ∙ ap (λ x. x ⊕ f 0) (sum-zero f) ∙ add_comm 𝟘 (f 0)
      ∙ ap (λ x. f 0 ⊕ x) (sym (sum-zero (λ i. f (suc i))))
  sum_head (suc n) f =
      sum-suc (suc n) f ∙ ap (λ x. x ⊕ f (suc n)) (sum_head n f)
      ∙ add_assoc (f 0) (sum R n (λ i. f (suc i))) (f (suc n))
      ∙ ap (λ x. f 0 ⊕ x) (sym (sum-suc n (λ i. f (suc i))))

  -- only the terms below m count
  pub sum-front : (m k : ℕ) (f : ℕ → car) → ((i : ℕ) → i < k → f (m + i) ≡ 𝟘) → sum R (m + k) f ≡ sum R m f
  sum-front m k f e =
      sum-split m k f ∙ ap (λ x. sum R m f ⊕ x) (sum_zeros k (λ i. f (m + i)) e) ∙ add-zero (sum R m f)

  -- only the terms from m on count
  pub sum_back : (m k : ℕ) (f : ℕ → car) → ((i : ℕ) → i < m → f i ≡ 𝟘) → sum R (m + k) f ≡ sum R k (λ i. f (m + i))
  sum_back m k f e =
      sum-split m k f ∙ ap (λ x. x ⊕ sum R k (λ i. f (m + i))) (sum_zeros m f e) ∙ zero-add R (sum R k (λ i. f (m + i)))

  -- only term k counts
  pub sum_single : (n k : ℕ) (f : ℕ → car) → k < n → ((i : ℕ) → i < n → i ≢ k → f i ≡ 𝟘) → sum R n f ≡ f k
  sum_single n k f l e =
      ap (λ j. sum R j f) (let q : n ≡ suc k + (n - suc k) = omega arith in q)
      ∙ sum-front (suc k) (n - suc k) f (λ i h. e (suc k + i) (omega arith) (omega arith))
      ∙ sum-suc k f ∙ ap (λ x. x ⊕ f k) (sum_zeros k f (λ i h. e i (omega arith) (omega arith))) ∙ zero-add R (f k)
