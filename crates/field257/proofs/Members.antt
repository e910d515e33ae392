-- The columns of a set as a family: column k of the set is its k-th member. Their locators are distinct and nonzero, and a sum over all columns whose
-- terms are 0 outside the set is the sum over its members.
use mathlib.Core.Path.{◌≡◌, sym, ap, ap₂, ◌∙◌}
use mathlib.Core.Logic.{◌⊎◌, inl, inr}
use mathlib.Core.Bool.{Bool, true, false}
use mathlib.Core.List.{[], ◌∷◌, ◌++◌}
use Prim.Native.Nat.{ℕ, zero, suc, ◌+◌, ◌-◌, ◌≤◌, ◌<◌}
use native.Mathlib.Nat.{le_step, lt-suc_self}
use native.Mathlib.Omega.{arith}
use lib.ListN.{length, get_or, get_or-append}
use lib.Seq.{get_or_at}
use Rattle.algebra.specs.Locator.{Distinct, Nonzero}
use Rattle.algebra.specs.Ring.{CRing}
use Rattle.algebra.specs.Sum.{sum}
use Rattle.algebra.proofs.Sums.{sum-zero, sum-suc, sum_ext, sum-front}
use Rattle.columns.specs.Columns.{has, members}
use Rattle.columns.specs.Listed.{count, listed}
use Rattle.columns.specs.declared.Columns.{Columns}
use Rattle.columns.proofs.Listing.{count-zero, count-pass, count_fail, listed-pass, listed_fail, by-test, length-listed, Entry, entry}
use Rattle.field257.proofs.Field257.{R257, locator_at}
use Rattle.field257.proofs.Locators.{locators_distinct, locator-nonzero}

abbrev pub size : Columns → ℕ
size J = length (members J)

abbrev pub member : Columns → ℕ → ℕ
member J k = get_or (members J) k 0

-- all columns of the set are below n
abbrev pub Below : ℕ → Columns → Type 0
Below n J = (i : ℕ) → has J i ≡ true → i < n

module _ (J : Columns) where
  size-count : size J ≡ count 256 (has J)
  size-count = length-listed 256 (has J)

  member-entry : (k : ℕ) → k < size J → Entry 256 (has J) k (member J k)
  member-entry k h = entry 256 (has J) k (let e = size-count in omega arith)

  pub member_below : (k : ℕ) → k < size J → member J k < 256
  member_below k h = (member-entry k h).below

  pub member-has : (k : ℕ) → k < size J → has J (member J k) ≡ true
  member-has k h = (member-entry k h).passes

  pub members_distinct : (k l : ℕ) → k < size J → l < size J → member J k ≡ member J l → k ≡ l
  members_distinct k l hk hl e = sym (member-entry k hk).place ∙ ap (λ (i : ℕ). count i (has J)) e ∙ (member-entry l hl).place

  pub member-locators_distinct : Distinct R257 (size J) (λ k. locator_at (member J k))
  member-locators_distinct k l hk hl e =
      members_distinct k l hk hl (locators_distinct (member J k) (member J l) (member_below k hk) (member_below l hl) e)

  pub member-locators-nonzero : Nonzero R257 (size J) (λ k. locator_at (member J k))
  member-locators-nonzero k h = locator-nonzero (member J k)

module _ (R : CRing) where
  open R use {car, zero as 𝟘, add as ◌⊕◌, add-zero}

  infixl 60 ◌⊕◌
  -- the same for the columns below n that pass a test
  pub sum-listed : (n : ℕ) (P : ℕ → Bool) (f : ℕ → car) → ((i : ℕ) → i < n → P i ≡ false → f i ≡ 𝟘)
      → sum R n f ≡ sum R (count n P) (λ k. f (get_or (listed n P) k 0))
  sum-listed zero P f z = sum-zero R f ∙ sym (ap (λ m. sum R m (λ k. f (get_or (listed 0 P) k 0))) (count-zero P) ∙ sum-zero R _)
  sum-listed (suc n) P f z = step (sum-listed n P f (λ i h. z i (le_step h))) (by-test (P n))
    where
      step : sum R n f ≡ sum R (count n P) (λ k. f (get_or (listed n P) k 0)) → (P n ≡ true) ⊎ (P n ≡ false)
          → sum R (suc n) f ≡ sum R (count (suc n) P) (λ k. f (get_or (listed (suc n) P) k 0))
      step ih (inl p) =
          sum-suc R n f
          ∙ ap₂ ◌⊕◌ (ih ∙ sum_ext R (count n P) _ _ (λ k h. ap f (sym (get_or-append (listed n P) (n ∷ []) 0 k (let e = length-listed n P in omega arith)))))
          (ap f (sym (get_or_at (listed n P) n [] 0 (count n P) (length-listed n P))))
          ∙ sym (sum-suc R (count n P) (λ k. f (get_or (listed n P ++ (n ∷ [])) k 0)))
          ∙ ap₂ (λ m l. sum R m (λ k. f (get_or l k 0))) (sym (count-pass n P p)) (sym (listed-pass n P p))
      step ih (inr p) =
          sum-suc R n f ∙ ap₂ ◌⊕◌ ih (z n (lt-suc_self n) p) ∙ add-zero _
          ∙ ap₂ (λ m l. sum R m (λ k. f (get_or l k 0))) (sym (count_fail n P p)) (sym (listed_fail n P p))

  pub sum-members : (n : ℕ) (J : Columns) (f : ℕ → car) → n ≤ 256 → Below n J → ((i : ℕ) → has J i ≡ false → f i ≡ 𝟘)
      → sum R n f ≡ sum R (size J) (λ k. f (member J k))
  sum-members n J f le below z =
      sym (sum-front R n (256 - n) f (λ i _. z (n + i) (past i (by-test (has J (n + i))))))
      ∙ ap (λ m. sum R m f) (let q : n + (256 - n) ≡ 256 = omega arith in q)
      ∙ sum-listed 256 (has J) f (λ i _. z i) ∙ ap (λ m. sum R m (λ k. f (member J k))) (sym (size-count J))
    where
      past : (i : ℕ) → (has J (n + i) ≡ true) ⊎ (has J (n + i) ≡ false) → has J (n + i) ≡ false
      past i (inl t) = absurd (let b = below (n + i) t in let q : ⊥ = omega arith in q)
      past i (inr f) = f
