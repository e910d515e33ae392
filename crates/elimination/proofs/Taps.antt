-- Taps as a list and as numbers for unknowns: the discrepancy at place j is 0 exactly where the taps solve the equation of this place.
use mathlib.Core.Path.{◌≡◌, sym, ap, ◌∙◌}
use mathlib.Core.List.{List}
use mathlib.Core.Logic.{◌↔◌}
use Prim.Native.Nat.{ℕ, ◌*◌, ◌<◌}
use native.Mathlib.Nat.{mul_comm}
use lib.ListN.{get_or}
use Rattle.lists.proofs.Tabulated.{get_d_tabulate}
use Rattle.lists.specs.Tabulate.{tabulate}
use Rattle.plain.proofs.Congruences.{equal}
use Rattle.plain.proofs.Terms.{sum_ext}
use Rattle.elimination.specs.Equations.{Solves}
use Rattle.plain.specs.Plain.{before, discrepancy, rem, sum}

module _ (p : ℕ) (s taps : List ℕ) (n : ℕ) (t : ℕ → ℕ) (same : (k : ℕ) → k < n → get_or taps k 0 ≡ t k) where
  pub discrepancy_solves : (j : ℕ) → (discrepancy p s taps n j ≡ 0) ↔ Solves p n (before s j) t
  discrepancy_solves j = (λ e. sym terms ∙ e, λ e. terms ∙ e)
    where
      terms : discrepancy p s taps n j ≡ rem (sum n (λ i. before s j i * t i)) p
      terms =
          equal p (sum_ext n (λ i. get_or taps i 0 * before s j i) (λ i. before s j i * t i)
          (λ i h. ap (λ (x : ℕ). x * before s j i) (same i h) ∙ mul_comm (t i) (before s j i)))

-- the first n numbers as taps
pub tabulated_solves : (p : ℕ) (s : List ℕ) (n : ℕ) (t : ℕ → ℕ) (j : ℕ) → (discrepancy p s (tabulate n t) n j ≡ 0) ↔ Solves p n (before s j) t
tabulated_solves p s n t = discrepancy_solves p s (tabulate n t) n t (λ k h. get_d_tabulate n t k 0 h)
