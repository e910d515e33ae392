-- Lists of coefficients modulo p: the entries of x^e·τ and of σ − q·x^e·τ, and that they are residues.
use mathlib.Core.Path.{◌≡◌, ap, ◌∙◌}
use mathlib.Core.List.{List}
use Prim.Native.Nat.{ℕ, suc, ◌+◌, ◌-◌, ◌≤◌, ◌<◌}
use native.Mathlib.Nat.{add-mod_right, mul-zero, zero-mod, mod-eq_of_lt, mod-lt, sub-zero}
use native.Mathlib.Decide.{dec_lt}
use native.Mathlib.Omega.{arith}
use borrow.Author.Tests.{lt-ltb, le-ltb}
use lib.ListN.{length, get_or, get_or-eq_default}
use Rattle.field.specs.Coefficients.{shifted, reduced}
use Rattle.field.specs.Residue.{minus, times}
use Rattle.lists.proofs.Tabulated.{length-tabulate, get_d_tabulate, get_or-tabulate-past}

-- coefficient i of x^e·τ, by the two cases
pub shifted-below : (e : ℕ) (τ : List ℕ) (i : ℕ) → i < e → shifted e τ i ≡ 0
unfolding shifted
shifted-below e τ i h = rw (lt-ltb i e h)

pub shifted-above : (e : ℕ) (τ : List ℕ) (i : ℕ) → e ≤ i → shifted e τ i ≡ get_or τ (i - e) 0
unfolding shifted
shifted-above e τ i h = rw (le-ltb i e h)

pub minus-zero : (p a q : ℕ) → a < p → minus p a (times p q 0) ≡ a
minus-zero p a q h = rw (mul-zero, zero-mod, sub-zero, add-mod_right) (mod-eq_of_lt h)

-- taps below p stay below p past their end
pub residues-past : (p : ℕ) (σ : List ℕ) → 0 < p → ((i : ℕ) → i < length σ → get_or σ i 0 < p) → (i : ℕ) → get_or σ i 0 < p
residues-past p σ pos small i = pick (dec_lt i (length σ))
  where
    pick : Dec (i < length σ) → get_or σ i 0 < p
    pick (yes inside) = small i inside
    pick (no past) = rw (get_or-eq_default σ 0 (let h : length σ ≤ i = omega arith in h)) pos

module _ (p l : ℕ) (σ : List ℕ) (q e : ℕ) (τ : List ℕ) where
  pub length-reduced : length (reduced p l σ q e τ) ≡ suc l
  unfolding reduced
  length-reduced = length-tabulate (suc l) (λ i. minus p (get_or σ i 0) (times p q (shifted e τ i)))

  pub get_or-reduced : (i : ℕ) → i ≤ l → get_or (reduced p l σ q e τ) i 0 ≡ minus p (get_or σ i 0) (times p q (shifted e τ i))
  unfolding reduced
  get_or-reduced i h = get_d_tabulate (suc l) (λ i. minus p (get_or σ i 0) (times p q (shifted e τ i))) i 0 (omega arith)

  pub get_or-reduced-past : (i : ℕ) → l < i → get_or (reduced p l σ q e τ) i 0 ≡ 0
  unfolding reduced
  get_or-reduced-past i h = get_or-tabulate-past (suc l) (λ i. minus p (get_or σ i 0) (times p q (shifted e τ i))) i 0 h

  pub reduced-residues : 0 < p → (i : ℕ) → get_or (reduced p l σ q e τ) i 0 < p
  reduced-residues pos =
      residues-past p (reduced p l σ q e τ) pos
      (λ i h.
      let inside : i ≤ l = omega (arith, length-reduced) in
      rw (get_or-reduced i inside) (mod-lt (get_or σ i 0 + (p - times p q (shifted e τ i))) pos))

  -- where τ is moved, the first coefficient stays
  pub reduced-first : 0 < e → get_or σ 0 0 < p → get_or (reduced p l σ q e τ) 0 0 ≡ get_or σ 0 0
  reduced-first moved less =
      get_or-reduced 0 (omega arith)
      ∙ ap (λ (x : ℕ). minus p (get_or σ 0 0) (times p q x)) (shifted-below e τ 0 moved)
      ∙ minus-zero p (get_or σ 0 0) q less
