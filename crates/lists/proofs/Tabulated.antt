-- Laws of lists and tests by index: what `tabulate` holds, when two such lists are equal, and what `every` says.
use mathlib.Core.Path.{◌≡◌, refl, sym, ap, ap₂, subst, ◌∙◌}
use mathlib.Core.Bool.{Bool, true, false, ◌&&◌, and-eq-true_iff, false≢true}
use mathlib.Core.List.{List, [], ◌∷◌, ◌++◌}
use Prim.Native.Nat.{ℕ, zero, suc, ◌≤◌, ◌<◌}
use native.Mathlib.Decide.{dec_lt}
use native.Mathlib.Nat.{le_of_suc-le-suc, le_step, lt-suc_self, not-suc-le-zero}
use native.Mathlib.Omega.{arith}
use lib.ListN.{length, get_or, get_or-eq_default}
use Rattle.lists.specs.Tabulate.{tabulate, every}

module _ {ℓ} {A : Type ℓ} where
  pub tabulate-zero : (f : ℕ → A) → tabulate 0 f ≡ []
  unfolding tabulate
  tabulate-zero f = refl

  pub tabulate-suc : (n : ℕ) (f : ℕ → A) → tabulate (suc n) f ≡ f 0 ∷ tabulate n (λ i. f (suc i))
  unfolding tabulate
  tabulate-suc n f = refl

  pub length-tabulate : (n : ℕ) (f : ℕ → A) → length (tabulate n f) ≡ n
  length-tabulate zero f = ap length (tabulate-zero f)
  length-tabulate (suc n) f = ap length (tabulate-suc n f) ∙ ap suc (length-tabulate n (λ i. f (suc i)))

  pub get_d_tabulate : (n : ℕ) (f : ℕ → A) (i : ℕ) (d : A) → i < n → get_or (tabulate n f) i d ≡ f i
  get_d_tabulate zero f i d h = absurd (not-suc-le-zero h)
  get_d_tabulate (suc n) f zero d h = ap (λ l. get_or l 0 d) (tabulate-suc n f)
  get_d_tabulate (suc n) f (suc i) d h =
      ap (λ l. get_or l (suc i) d) (tabulate-suc n f) ∙ get_d_tabulate n (λ i. f (suc i)) i d (le_of_suc-le-suc h)

  pub get_or-tabulate-past : (n : ℕ) (f : ℕ → A) (i : ℕ) (d : A) → n ≤ i → get_or (tabulate n f) i d ≡ d
  get_or-tabulate-past n f i d h =
      get_or-eq_default (tabulate n f) d (subst (λ (m : ℕ). m ≤ i) (sym (length-tabulate n f)) h)

  pub tabulate_ext : (n : ℕ) (f g : ℕ → A) → ((i : ℕ) → i < n → f i ≡ g i) → tabulate n f ≡ tabulate n g
  tabulate_ext zero f g e = tabulate-zero f ∙ sym (tabulate-zero g)
  tabulate_ext (suc n) f g e =
      tabulate-suc n f ∙ ap₂ ◌∷◌ (e 0 (omega arith)) (tabulate_ext n (λ i. f (suc i)) (λ i. g (suc i)) (λ i h. e (suc i) (omega arith)))
      ∙ sym (tabulate-suc n g)

  pub tabulate-more : (n : ℕ) (f : ℕ → A) → tabulate (suc n) f ≡ tabulate n f ++ (f n ∷ [])
  tabulate-more zero f = tabulate-suc 0 f ∙ ap (λ l. f 0 ∷ l) (tabulate-zero (λ i. f (suc i))) ∙ ap (λ l. l ++ (f 0 ∷ [])) (sym (tabulate-zero f))
  tabulate-more (suc n) f =
      tabulate-suc (suc n) f ∙ ap (λ l. f 0 ∷ l) (tabulate-more n (λ i. f (suc i))) ∙ ap (λ l. l ++ (f (suc n) ∷ [])) (sym (tabulate-suc n f))

  -- a list is the list of its entries
  pub tabulate-get_or : (l : List A) (d : A) → tabulate (length l) (λ i. get_or l i d) ≡ l
  tabulate-get_or [] d = tabulate-zero (λ i. d)
  tabulate-get_or (x ∷ xs) d = tabulate-suc (length xs) (λ i. get_or (x ∷ xs) i d) ∙ ap (λ l. x ∷ l) (tabulate-get_or xs d)

pub every-zero : (f : ℕ → Bool) → every 0 f ≡ true
unfolding every
every-zero f = refl

pub every-suc : (n : ℕ) (f : ℕ → Bool) → every (suc n) f ≡ (every n f && f n)
unfolding every
every-suc n f = refl

-- it says that the test passes at each number below n, and nothing more
pub every-at : (n : ℕ) (f : ℕ → Bool) → every n f ≡ true → (k : ℕ) → k < n → f k ≡ true
every-at zero f e k h = absurd (not-suc-le-zero h)
every-at (suc n) f e k h = pick (dec_lt k n) (every-at n f both.0 k)
  where
    both : (every n f ≡ true) × (f n ≡ true)
    both = (and-eq-true_iff (every n f) (f n)).0 (sym (every-suc n f) ∙ e)

    pick : Dec (k < n) → (k < n → f k ≡ true) → f k ≡ true
    pick (yes before) ih = ih before
    pick (no not-before) ih = rw (let last : k ≡ n = omega arith in last) both.1

pub every_of : (n : ℕ) (f : ℕ → Bool) → ((k : ℕ) → k < n → f k ≡ true) → every n f ≡ true
every_of zero f h = every-zero f
every_of (suc n) f h =
    every-suc n f ∙ (and-eq-true_iff (every n f) (f n)).1 (every_of n f (λ k b. h k (le_step b)), h n (lt-suc_self n))

-- a number below n at which it fails decides it
pub every-fails : (n : ℕ) (f : ℕ → Bool) (k : ℕ) → k < n → f k ≡ false → every n f ≡ false
every-fails n f k h e = pick (every n f) refl
  where
    pick : (b : Bool) → every n f ≡ b → every n f ≡ false
    pick true t = absurd (false≢true (sym e ∙ every-at n f t k h))
    pick false t = t

-- and where it is false there is such a number
pub every_witness : (n : ℕ) (f : ℕ → Bool) → every n f ≡ false → (k : ℕ) × (k < n) × (f k ≡ false)
every_witness zero f e = absurd (false≢true (sym e ∙ every-zero f))
every_witness (suc n) f e = pick (f n) refl (every n f) refl (every_witness n f)
  where
    pick : (b : Bool) → f n ≡ b → (a : Bool) → every n f ≡ a → (every n f ≡ false → (k : ℕ) × (k < n) × (f k ≡ false)) → (k : ℕ) × (k < suc n) × (f k ≡ false)
    pick false t a u ih = (n, lt-suc_self n, t)
    pick true t true u ih = absurd (false≢true (sym e ∙ every-suc n f ∙ ap₂ ◌&&◌ u t))
    pick true t false u ih = let w = ih u in (w.0, le_step w.1, w.2)

pub every_ext : (n : ℕ) (f g : ℕ → Bool) → ((k : ℕ) → k < n → f k ≡ g k) → every n f ≡ every n g
every_ext zero f g e = every-zero f ∙ sym (every-zero g)
every_ext (suc n) f g e =
    every-suc n f ∙ ap₂ ◌&&◌ (every_ext n f g (λ k h. e k (le_step h))) (e n (lt-suc_self n)) ∙ sym (every-suc n g)
