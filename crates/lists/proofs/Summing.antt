-- Terms summed one after the other: the sum so far, and that it is at most so many times what a term is at most.
use mathlib.Core.Path.{◌≡◌, sym, ap, ap₂, ◌∙◌}
use Prim.Native.Nat.{ℕ, ◌+◌, ◌*◌, ◌≤◌, ◌<◌, zero-le}
use native.Mathlib.Nat.{le_antisymm, mul-le-mul_right}
use native.Mathlib.Numerals.{add-one}
use native.Mathlib.Omega.{arith}
use Rattle.lists.specs.Total.{total}
use Rattle.lists.proofs.Totals.{total-zero, total-suc}

module _ (n most : ℕ) (f : ℕ → ℕ) where
  -- k of n terms are summed
  pub record Summed (k sum : ℕ) : Type 0 where
    pub within : k ≤ n
    pub so_far : sum ≡ total k f
    pub bounded : sum ≤ k * most

  pub summed-none : Summed 0 0
  summed-none = record { within = zero-le; so_far = sym (total-zero f); bounded = zero-le }

  module _ (k sum : ℕ) (a : Summed k sum) where
    pub summed-more : (x : ℕ) → k < n → x ≡ f k → x ≤ most → Summed (k + 1) (sum + x)
    summed-more x h e le = record {
      within = omega arith;
      so_far = ap₂ ◌+◌ a.so_far e ∙ sym (total-suc k f) ∙ ap (λ (m : ℕ). total m f) (sym (add-one k));
      bounded = (let b = a.bounded in omega arith);
    }

    pub summed-most : sum ≤ n * most
    summed-most = let b = a.bounded in omega (arith, mul-le-mul_right most a.within)

    pub summed-all : n ≤ k → sum ≡ total n f
    summed-all le = a.so_far ∙ ap (λ (m : ℕ). total m f) (le_antisymm a.within le)
