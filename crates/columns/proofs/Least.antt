-- Laws of `least`: the least number below n that passes P, or n, is the only number r up to n with none that passes before it and, where it is
-- below n, passing itself.
use mathlib.Core.Path.{◌≡◌, refl, sym, ap₂, ◌∙◌}
use mathlib.Core.Bool.{Bool, true, false, cond, true≢false}
use Prim.Native.Nat.{ℕ, zero, suc, ◌≤◌, ◌<◌, zero-le}
use native.Mathlib.Nat.{le_antisymm, not-suc-le-zero}
use native.Mathlib.Omega.{arith}
use Rattle.columns.specs.Listed.{least}

-- tests that agree below n have the same least number
pub least_ext : (n : ℕ) (P Q : ℕ → Bool) → ((k : ℕ) → k < n → P k ≡ Q k) → least n P ≡ least n Q
unfolding least
least_ext zero P Q h = refl
least_ext (suc n) P Q h =
    ap₂ (λ (b : Bool) (m : ℕ). cond b 0 (suc m)) (h 0 (omega arith))
    (least_ext n (λ k. P (suc k)) (λ k. Q (suc k)) (λ k l. h (suc k) (omega arith)))

-- r is the least number below n that passes, or n
pub record Least (n : ℕ) (P : ℕ → Bool) (r : ℕ) : Type 0 where
  pub within : r ≤ n
  pub before : (k : ℕ) → k < r → P k ≡ false
  pub here : r < n → P r ≡ true

pub least-is : (n : ℕ) (P : ℕ → Bool) → Least n P (least n P)
unfolding least
least-is zero P = record { within = zero-le; before = λ k l. absurd (not-suc-le-zero l); here = λ l. absurd (not-suc-le-zero l) }
least-is (suc n) P = step (P 0) refl (least-is n (λ k. P (suc k)))
  where
    step : (b : Bool) → P 0 ≡ b → Least n (λ k. P (suc k)) (least n (λ k. P (suc k)))
        → Least (suc n) P (cond b 0 (suc (least n (λ k. P (suc k)))))
    step true e l = record { within = zero-le; before = λ k p. absurd (not-suc-le-zero p); here = λ p. e }
    step false e l = record {
      within = (let h = l.within in omega arith);
      before = earlier;
      here = λ p. l.here (omega arith);
    }
      where
        earlier : (k : ℕ) → k < suc (least n (λ k. P (suc k))) → P k ≡ false
        earlier zero p = e
        earlier (suc k) p = l.before k (omega arith)

no-later : (n : ℕ) (P : ℕ → Bool) (r s : ℕ) → Least n P r → Least n P s → r ≤ s
no-later n P r s l m =
    let not-sooner : ¬ (s < r) = λ h. true≢false (sym (m.here (let w = l.within in omega arith)) ∙ l.before s h) in
    omega arith

pub least_unique : (n : ℕ) (P : ℕ → Bool) (r : ℕ) → Least n P r → r ≡ least n P
least_unique n P r l = le_antisymm (no-later n P r (least n P) l (least-is n P)) (no-later n P (least n P) r (least-is n P) l)
