-- Locators: ring elements that name places. A family of m locators is a function of the index below m; the locator
-- polynomial of a list of them is the product of the factors 1 − x·z, one for each entry x.
use Rattle.std.specs.Prelude.{◌≡◌, List, [], ◌∷◌, ℕ, zero, suc, ◌<◌}
use Rattle.algebra.specs.Ring.{CRing}

module _ (R : CRing) where
  open R use {car, zero as 𝟘, one as 𝟙, add as ◌⊕◌, mul as ◌⊗◌, neg}

  infixl 60 ◌⊕◌
  infixl 70 ◌⊗◌
  -- X 0, .., X (m − 1) are pairwise different
  abbrev pub Distinct : ℕ → (ℕ → car) → Type 0
  Distinct m X = (i j : ℕ) → i < m → j < m → X i ≡ X j → i ≡ j

  -- X 0, .., X (m − 1) are all nonzero
  abbrev pub Nonzero : ℕ → (ℕ → car) → Type 0
  Nonzero m X = (i : ℕ) → i < m → X i ≡ 𝟘 → ⊥

  -- the polynomial 1
  unfoldable pub unit : ℕ → car
  unit zero = 𝟙
  unit (suc i) = 𝟘

  -- the polynomial f times 1 − x·z
  unfoldable pub factor : car → (ℕ → car) → ℕ → car
  factor x f zero = f zero
  factor x f (suc i) = f (suc i) ⊕ neg (x ⊗ f i)

  unfoldable pub locator : List car → ℕ → car
  locator [] = unit
  locator (x ∷ xs) = factor x (locator xs)
