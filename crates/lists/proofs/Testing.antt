-- A test of all of n entries, entry after entry: whether those tested so far have passed. A loop that is left at the first that fails has tested so far with
-- the answer true.
use mathlib.Core.Path.{◌≡◌, sym, ap, ◌∙◌}
use mathlib.Core.Bool.{Bool, true, false, ◌&&◌, and-true, and-false}
use Prim.Native.Nat.{ℕ, ◌+◌, ◌≤◌, ◌<◌, zero-le}
use native.Mathlib.Nat.{le_antisymm}
use native.Mathlib.Numerals.{add-one}
use native.Mathlib.Omega.{arith}
use Rattle.lists.specs.Tabulate.{every}
use Rattle.lists.proofs.Tabulated.{every-zero, every-suc, every-fails}

module _ (n : ℕ) (test : ℕ → Bool) where
  pub record Tested (k : ℕ) (all : Bool) : Type 0 where
    pub within : k ≤ n
    pub so_far : all ≡ every k test

  pub tested-none : Tested 0 true
  tested-none = record { within = zero-le; so_far = sym (every-zero test) }

  -- one that fails decides it
  pub tested_out : (k : ℕ) → k < n → test k ≡ false → false ≡ every n test
  tested_out k h t = sym (every-fails n test k h t)

  module _ (k : ℕ) (before : Bool) (a : Tested k before) (h : k < n) where
    one_more : every (k + 1) test ≡ (every k test && test k)
    one_more = ap (λ (m : ℕ). every m test) (add-one k) ∙ every-suc k test

    pub tested-pass : (all : Bool) → all ≡ before → test k ≡ true → Tested (k + 1) all
    tested-pass all e t = record {
      within = omega arith;
      so_far = e ∙ a.so_far ∙ sym (one_more ∙ ap (λ (b : Bool). every k test && b) t ∙ and-true (every k test));
    }

    pub tested_fail : (all : Bool) → all ≡ false → test k ≡ false → Tested (k + 1) all
    tested_fail all e t = record {
      within = omega arith;
      so_far = e ∙ sym (one_more ∙ ap (λ (b : Bool). every k test && b) t ∙ and-false (every k test));
    }

  pub tested-all : (k : ℕ) (all : Bool) → Tested k all → n ≤ k → all ≡ every n test
  tested-all k all a le = a.so_far ∙ ap (λ (m : ℕ). every m test) (le_antisymm a.within le)
