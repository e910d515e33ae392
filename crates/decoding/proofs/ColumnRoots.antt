-- Roots at the columns of a set P. A polynomial that is not 0 has no more roots at the columns of P than its degree; where it has as many and the constant term
-- 1 they determine it, and it is the locator polynomial of P.
use mathlib.Core.Path.{◌≡◌, sym, ap, ◌∙◌}
use mathlib.Core.Logic.{◌≢◌}
use mathlib.Core.Bool.{Bool, true}
use mathlib.Core.List.{List}
use Prim.Native.Nat.{ℕ, ◌≤◌, ◌<◌}
use native.Mathlib.Decide.{dec_lt}
use native.Mathlib.Omega.{arith}
use lib.ListN.{length, get_or}
use Rattle.algebra.specs.Ring.{Field}
use Rattle.algebra.specs.Polynomial.{Degree, eval}
use Rattle.algebra.specs.Locator.{Distinct, Nonzero, locator}
use Rattle.algebra.proofs.Roots.{roots-zero, roots_unique}
use Rattle.algebra.proofs.LocatorLaws.{locator-constant, locator_degree, locator-root, inverses_distinct}
use Rattle.columns.specs.Listed.{count, listed}
use Rattle.columns.proofs.Listing.{count-lt, listed_at, entry}
use Rattle.lists.specs.Tabulate.{tabulate}
use Rattle.lists.proofs.Tabulated.{length-tabulate, get_d_tabulate}

-- f, of degree at most l, vanishes at the inverses of the elements X i of the columns i of P
abbrev pub Roots : (F : Field) (n : ℕ) (X : ℕ → F.ring.car) (P : ℕ → Bool) (l : ℕ) (f : ℕ → F.ring.car) → Type 0
Roots F n X P l f = (i : ℕ) → i < n → P i ≡ true → eval F.ring l f (F.inv (X i)) ≡ F.ring.zero

module _ (F : Field) (n : ℕ) (X : ℕ → F.ring.car) (distinct : Distinct F.ring n X) (nonzero : Nonzero F.ring n X) (P : ℕ → Bool) where
  open F use {ring as R, inv, mul-inv}
  open R use {car, zero as 𝟘, one as 𝟙, mul as ◌⊗◌}

  infixl 70 ◌⊗◌
  -- the elements of the columns of P, rising
  chosen : ℕ → car
  chosen k = X (get_or (listed n P) k 0)

  chosen_distinct : Distinct R (count n P) chosen
  unfolding chosen
  chosen_distinct i j hi hj e =
      sym (entry n P i hi).place
      ∙ ap (λ (c : ℕ). count c P) (distinct _ _ (entry n P i hi).below (entry n P j hj).below e) ∙ (entry n P j hj).place

  chosen-nonzero : Nonzero R (count n P) chosen
  unfolding chosen
  chosen-nonzero i h = nonzero _ (entry n P i h).below

  module _ (l : ℕ) (f : ℕ → car) (degree : Degree R l f) (roots : Roots F n X P l f) where
    root : (k : ℕ) → k < count n P → eval R l f (inv (chosen k)) ≡ 𝟘
    unfolding chosen
    root k h = roots _ (entry n P k h).below (entry n P k h).passes

    -- a polynomial has no more roots than its degree
    pub roots-at-most : (k : ℕ) → f k ≢ 𝟘 → count n P ≤ l
    roots-at-most k apart = elim (dec_lt l (count n P)) [
      | yes more ↦ absurd (apart (roots-zero F l f (λ k. inv (chosen k)) degree
          (λ i j hi hj. inverses_distinct F (count n P) chosen chosen_distinct chosen-nonzero i j (omega arith) (omega arith))
          (λ k h. root k (omega arith)) k))
      | no fewer ↦ omega arith
    ]

  -- and where it has as many, they and the constant term determine it
  pub roots-same : (f g : ℕ → car) → Degree R (count n P) f → Degree R (count n P) g → f 0 ≡ 𝟙 → g 0 ≡ 𝟙
      → Roots F n X P (count n P) f → Roots F n X P (count n P) g → (k : ℕ) → f k ≡ g k
  roots-same f g df dg f0 g0 rf rg =
      roots_unique F (count n P) f g (λ k. inv (chosen k)) df dg f0 g0
      (inverses_distinct F (count n P) chosen chosen_distinct chosen-nonzero) (root (count n P) f df rf) (root (count n P) g dg rg)

  -- ---- the locator polynomial of the columns of P

  locators : List car
  locators = tabulate (count n P) chosen

  locators-length : length locators ≡ count n P
  unfolding locators
  locators-length = length-tabulate (count n P) chosen

  pub locator_of_lem : ℕ → car
  locator_of_lem = locator R locators

  pub locator_of_degree : Degree R (count n P) locator_of_lem
  unfolding locator_of_lem
  locator_of_degree i h = locator_degree R locators i (let l = locators-length in omega arith)

  pub locator_of_constant : locator_of_lem 0 ≡ 𝟙
  unfolding locator_of_lem
  locator_of_constant = locator-constant R locators

  pub locator_of_roots : Roots F n X P (count n P) locator_of_lem
  unfolding locator_of_lem locators chosen
  locator_of_roots i h e =
      ap (λ m. eval R m locator_of_lem (inv (X i))) (sym locators-length)
      ∙ locator-root R locators (inv (X i)) (count i P) (let l = locators-length in let c = count-lt i n P h e in omega arith)
      (ap (λ x. x ⊗ inv (X i)) (get_d_tabulate (count n P) chosen (count i P) 𝟘 (count-lt i n P h e) ∙ ap X (listed_at i n P h e))
      ∙ mul-inv (X i) (nonzero i h))
