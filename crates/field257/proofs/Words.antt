-- Words on the columns 0 .. n − 1 that vanish outside a set P of columns: a word whose power sums at as many exponents as P has columns, following one
-- another from any start, are 0 is 0 (Vandermonde).
use mathlib.Core.Path.{◌≡◌, sym, ap, ◌∙◌}
use mathlib.Core.Bool.{Bool, true, false}
use mathlib.Core.Logic.{◌⊎◌, inl, inr}
use Prim.Native.Nat.{ℕ, ◌+◌, ◌<◌}
use lib.ListN.{get_or}
use Rattle.algebra.specs.Locator.{Distinct, Nonzero}
use Rattle.algebra.specs.Ring.{CRing, Field}
use Rattle.algebra.specs.Sum.{sum, pow}
use Rattle.algebra.proofs.RingLaws.{zero-mul}
use Rattle.algebra.proofs.Vandermonde.{weights_unique}
use Rattle.columns.specs.Listed.{count, listed}
use Rattle.columns.proofs.Listing.{count-lt, by-test, listed_at, entry}
use Rattle.field257.proofs.Members.{sum-listed}

-- f vanishes at the columns below n outside P
abbrev pub Outside : (R : CRing) (n : ℕ) (P : ℕ → Bool) (f : ℕ → R.car) → Type 0
Outside R n P f = (i : ℕ) → i < n → P i ≡ false → f i ≡ R.zero

module _ (F : Field) (n : ℕ) (X : ℕ → F.ring.car) (distinct : Distinct F.ring n X) (nonzero : Nonzero F.ring n X) (P : ℕ → Bool) where
  open F use {ring as R}
  open R use {car, zero as 𝟘, mul as ◌⊗◌}

  infixl 70 ◌⊗◌
  pub word-zero : (e : ℕ → car) → Outside R n P e → (b : ℕ)
      → ((j : ℕ) → j < count n P → sum R n (λ i. e i ⊗ pow R (X i) (b + j)) ≡ 𝟘) → (i : ℕ) → i < n → e i ≡ 𝟘
  word-zero e z b sums i h = pick (by-test (P i))
    where
      pick : (P i ≡ true) ⊎ (P i ≡ false) → e i ≡ 𝟘
      pick (inr out) = z i h out
      pick (inl mem) =
          ap e (sym (listed_at i n P h mem))
          ∙ weights_unique F (count n P) (λ k. X (get_or (listed n P) k 0))
          (λ k l hk hl q.
          sym (entry n P k hk).place ∙ ap (λ (c : ℕ). count c P) (distinct _ _ (entry n P k hk).below (entry n P l hl).below q) ∙ (entry n P l hl).place)
          (λ k hk. nonzero _ (entry n P k hk).below) b (λ k. e (get_or (listed n P) k 0))
          (λ j l. sym (sum-listed R n P (λ i. e i ⊗ pow R (X i) (b + j)) (λ k g out. ap (λ x. x ⊗ pow R (X k) (b + j)) (z k g out) ∙ zero-mul R _)) ∙ sums j l)
          (count i P) (count-lt i n P h mem)
