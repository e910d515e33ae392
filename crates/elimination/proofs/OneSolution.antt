-- Where every row leads, the rows have at most one solution: from the last unknown to the first, row m has no unknown before m, and those
-- after m are the same already, so that it fixes unknown m.
use mathlib.Core.Path.{◌≡◌, refl, sym, ap, ◌∙◌}
use mathlib.Core.List.{List}
use Prim.Native.Nat.{ℕ, zero, suc, ◌+◌, ◌*◌, ◌≤◌, ◌<◌}
use native.Mathlib.Decide.{ℕ_discrete, dec_lt}
use native.Mathlib.Nat.{zero-mul}
use native.Mathlib.Omega.{arith}
use Rattle.field.specs.Prime.{Prime}
use Rattle.plain.proofs.Congruences.{equal, rem-small, cancel-term, cancel-factor}
use Rattle.plain.proofs.Terms.{sum-apart}
use Rattle.elimination.proofs.BackSubstitution.{lead_not-zero}
use Rattle.elimination.specs.Equations.{Echelon, LeadsRow, Numbers, SolvesRows, value_at}
use Rattle.plain.specs.Plain.{Each}

module _ (p n : ℕ) (table : List ℕ) (prime : Prime p) (echelon : Echelon p n table) (all : Each 1 n (LeadsRow table)) (t u : ℕ → ℕ)
    (wt : Numbers p t) (wu : Numbers p u) (st : SolvesRows p n table t) (su : SolvesRows p n table u) where
  row_fixes : (m : ℕ) → 1 ≤ m → m < n → ((k : ℕ) → m < k → k < n → t k ≡ u k) → t m ≡ u m
  row_fixes m low less after =
      let lead = all m low less in
      let (rest, parts) = sum-apart n m (λ j. value_at table m j * t j) less in
      let of-t = parts (λ j. value_at table m j * t j) (λ j h other. refl) in
      let of-u = parts (λ j. value_at table m j * u j) (λ j h other. term j h other (ℕ_discrete j 0) (dec_lt j m)) in
      sym (rem-small (t m) p (wt.below m))
      ∙ cancel-factor p prime (value_at table m m) (t m) (u m) (lead_not-zero p n table prime echelon m low less lead)
      (cancel-term p rest (value_at table m m * t m) (value_at table m m * u m)
      (sym (equal p of-t) ∙ st m low less lead ∙ sym (su m low less lead) ∙ equal p of-u))
      ∙ rem-small (u m) p (wu.below m)
    where
      term : (j : ℕ) → j < n → (j ≡ m → ⊥) → Dec (j ≡ 0) → Dec (j < m) → value_at table m j * u j ≡ value_at table m j * t j
      term j h other (yes e) d =
          ap (λ (x : ℕ). value_at table m j * x) (ap u e ∙ wu.one ∙ sym wt.one ∙ sym (ap t e))
      term j h other (no e) (yes l) =
          let z = echelon.leads m j (omega arith) l less (all m low less) in
          ap (λ (x : ℕ). x * u j) z ∙ zero-mul (u j) ∙ sym (ap (λ (x : ℕ). x * t j) z ∙ zero-mul (t j))
      term j h other (no e) (no l) = ap (λ (x : ℕ). value_at table m j * x) (sym (after j (omega arith) h))

  same_from : (d m : ℕ) → 1 ≤ m → n ≤ m + d → (k : ℕ) → m ≤ k → k < n → t k ≡ u k
  same_from zero m low le k l h = absurd (let z : ⊥ = omega arith in z)
  same_from (suc d) m low le k l h = pick (ℕ_discrete m k) (same_from d (suc m) (omega arith) (omega arith))
    where
      pick : Dec (m ≡ k) → ((i : ℕ) → suc m ≤ i → i < n → t i ≡ u i) → t k ≡ u k
      pick (yes e) next = row_fixes k (omega arith) h (λ i after high. next i (omega arith) high)
      pick (no e) next = next k (omega arith) h

  pub one_solution : (k : ℕ) → k < n → t k ≡ u k
  one_solution k h = pick (ℕ_discrete k 0)
    where
      pick : Dec (k ≡ 0) → t k ≡ u k
      pick (yes e) = ap t e ∙ wt.one ∙ sym wu.one ∙ sym (ap u e)
      pick (no e) = same_from n 1 (omega arith) (omega arith) k (omega arith) h
