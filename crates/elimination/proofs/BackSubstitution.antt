-- Back substitution in a table in echelon form. From the last unknown to the first, an unknown whose row leads takes the value that
-- solves this row, and any other keeps the value that was chosen; the rows after it, which are solved already, do not have the unknown.
-- So some numbers solve all rows, and where a row does not lead there are two choices.
use mathlib.Core.Path.{◌≡◌, refl, sym, ap, subst, ◌∙◌}
use mathlib.Core.Bool.{Bool, cond}
use mathlib.Core.List.{List}
use Prim.Native.Nat.{ℕ, zero, suc, ◌+◌, ◌*◌, ◌≤◌, ◌<◌}
use native.Mathlib.Decide.{ℕ_discrete, dec_lt}
use native.Mathlib.Nat.{zero-mul}
use native.Mathlib.Omega.{arith}
use borrow.Author.Tests.{eq-eqb, ne_eqb}
use lib.Dec.{eqb}
use Rattle.field.specs.Prime.{Prime}
use Rattle.plain.proofs.Congruences.{equal, rem-small, solved-by}
use Rattle.plain.proofs.Terms.{sum_ext, sum-apart}
use Rattle.elimination.specs.Equations.{Echelon, LeadsRow, Numbers, Solves, SolvesRows, value_at}
use Rattle.plain.specs.Plain.{Each, rem}

-- t with v for unknown m
abbrev changed_at : (t : ℕ → ℕ) (m v : ℕ) → ℕ → ℕ
changed_at t m v k = cond (eqb k m) v (t k)

module _ (t : ℕ → ℕ) (m v : ℕ) where
  changed-at : (k : ℕ) → k ≡ m → changed_at t m v k ≡ v
  changed-at k e = ap (λ (b : Bool). cond b v (t k)) (eq-eqb k m e)

  changed_elsewhere : (k : ℕ) → (k ≡ m → ⊥) → changed_at t m v k ≡ t k
  changed_elsewhere k n = ap (λ (b : Bool). cond b v (t k)) (ne_eqb k m n)

  numbers-changed : {p : ℕ} → Numbers p t → 1 ≤ m → v < p → Numbers p (changed_at t m v)
  numbers-changed {p} w low small = record {
    one = changed_elsewhere 0 (λ e. let z : ⊥ = omega arith in z) ∙ w.one;
    below = λ k. elim (ℕ_discrete k m) [
      | yes e ↦ subst (λ (x : ℕ). x < p) (sym (changed-at k e)) small
      | no e ↦ subst (λ (x : ℕ). x < p) (sym (changed_elsewhere k e)) (w.below k)
    ];
  }

-- t is f at each unknown whose row does not lead, and solves the rows from m on that lead
record Chosen (p n : ℕ) (table : List ℕ) (f t : ℕ → ℕ) (m : ℕ) : Type 0 where
  numbers : Numbers p t
  free : (k : ℕ) → (1 ≤ k → k < n → LeadsRow table k → ⊥) → t k ≡ f k
  solved : Each m n (λ k. LeadsRow table k → Solves p n (value_at table k) t)

module _ (p n : ℕ) (table : List ℕ) (prime : Prime p) (echelon : Echelon p n table) where
  abbrev From : (f : ℕ → ℕ) (m : ℕ) → Type 0
  From f m = (t : ℕ → ℕ) × Chosen p n table f t m

  chosen-idle : (f : ℕ → ℕ) (m : ℕ) → (m < n → LeadsRow table m → ⊥) → From f (suc m) → From f m
  chosen-idle f m idle (t, w) =
      (t, record { numbers = w.numbers; free = w.free; solved = λ k low high leads. later k low high leads (ℕ_discrete k m) })
    where
      later : (k : ℕ) → m ≤ k → k < n → LeadsRow table k → Dec (k ≡ m) → Solves p n (value_at table k) t
      later k low high leads (yes e) = absurd (idle (omega arith) (subst (LeadsRow table) e leads))
      later k low high leads (no e) = w.solved k (omega arith) high leads

  -- a row after m does not have unknown m
  row_keeps : (t : ℕ → ℕ) (m v k : ℕ) → 1 ≤ m → m < k → k < n → LeadsRow table k → Solves p n (value_at table k) t →
      Solves p n (value_at table k) (changed_at t m v)
  row_keeps t m v k low after high leads solved =
      equal p (sum_ext n (λ j. value_at table k j * changed_at t m v j) (λ j. value_at table k j * t j) (λ j h. term j (ℕ_discrete j m))) ∙ solved
    where
      term : (j : ℕ) → Dec (j ≡ m) → value_at table k j * changed_at t m v j ≡ value_at table k j * t j
      term j (yes e) =
          let z : value_at table k j ≡ 0 = echelon.leads k j (omega arith) (omega arith) high leads in
          ap (λ (x : ℕ). x * changed_at t m v j) z ∙ zero-mul (changed_at t m v j) ∙ sym (ap (λ (x : ℕ). x * t j) z ∙ zero-mul (t j))
      term j (no e) = ap (λ (x : ℕ). value_at table k j * x) (changed_elsewhere t m v j e)

  pub lead_not-zero : (m : ℕ) → 1 ≤ m → m < n → LeadsRow table m → rem (value_at table m m) p ≡ 0 → ⊥
  lead_not-zero m low less leads z = leads (sym (rem-small (value_at table m m) p (echelon.below m m low less less leads)) ∙ z)

  -- some value for unknown m solves row m
  row-solved : (t : ℕ → ℕ) (m : ℕ) → 1 ≤ m → m < n → LeadsRow table m → (v : ℕ) × (v < p) × Solves p n (value_at table m) (changed_at t m v)
  row-solved t m low less leads =
      let (rest, parts) = sum-apart n m (λ j. value_at table m j * t j) less in
      let (v, small, root) = solved-by p prime (value_at table m m) rest (lead_not-zero m low less leads) in (
        v,
        small,
        equal p (parts (λ j. value_at table m j * changed_at t m v j) (λ j h e. ap (λ (x : ℕ). value_at table m j * x) (changed_elsewhere t m v j e))
            ∙ ap (λ (x : ℕ). rest + value_at table m m * x) (changed-at t m v m refl))
            ∙ root,
      )

  chosen_led : (f : ℕ → ℕ) (m : ℕ) → 1 ≤ m → m < n → LeadsRow table m → From f (suc m) → From f m
  chosen_led f m low less leads (t, w) =
      let (v, small, here) = row-solved t m low less leads in (
        changed_at t m v,
        record {
          numbers = numbers-changed t m v w.numbers low small;
          free = λ k idle.
              changed_elsewhere t m v k (λ e. idle (omega arith) (omega arith) (subst (LeadsRow table) (sym e) leads)) ∙ w.free k idle;
          solved = λ k l high leads. elim (ℕ_discrete k m) [
            | yes e ↦ subst (λ (i : ℕ). Solves p n (value_at table i) (changed_at t m v)) (sym e) here
            | no e ↦ row_keeps t m v k low (omega arith) high leads (w.solved k (omega arith) high leads)
          ];
        },
      )

  chosen-from : (f : ℕ → ℕ) → Numbers p f → (d m : ℕ) → 1 ≤ m → n ≤ m + d → From f m
  chosen-from f w zero m low le =
      (f, record { numbers = w; free = λ k idle. refl; solved = λ k l h. absurd (let z : ⊥ = omega arith in z) })
  chosen-from f w (suc d) m low le = pick (dec_lt m n) (ℕ_discrete (value_at table m m) 0) (chosen-from f w d (suc m) (omega arith) (omega arith))
    where
      pick : Dec (m < n) → Dec (value_at table m m ≡ 0) → From f (suc m) → From f m
      pick (yes h) (yes z) next = chosen-idle f m (λ less leads. leads z) next
      pick (yes h) (no leads) next = chosen_led f m low h leads next
      pick (no h) d next = chosen-idle f m (λ less. absurd (h less)) next

  back_substitution : (f : ℕ → ℕ) → Numbers p f → (t : ℕ → ℕ) × Chosen p n table f t 1
  back_substitution f w = chosen-from f w n 1 (omega arith) (omega arith)

  ones : Numbers p (λ k. 1)
  ones = record { one = refl; below = λ k. prime.two_or_more }

  pub some_solution : (t : ℕ → ℕ) × Numbers p t × SolvesRows p n table t
  some_solution = let (t, w) = back_substitution (λ k. 1) ones in (t, w.numbers, w.solved)

  -- one choice has 1 for the unknown whose row does not lead, another 0
  pub two_solutions : (m : ℕ) → 1 ≤ m → value_at table m m ≡ 0 →
      (t u : ℕ → ℕ) × (Numbers p t × SolvesRows p n table t) × (Numbers p u × SolvesRows p n table u) × (t m ≡ u m → ⊥)
  two_solutions m low idle =
      let (t, w) = back_substitution (λ k. 1) ones in
      let (u, x) = back_substitution (changed_at (λ k. 1) m 0) (numbers-changed (λ k. 1) m 0 ones low (omega (arith, prime.two_or_more))) in
      let et : t m ≡ 1 = w.free m (λ l h leads. leads idle) in
      let eu : u m ≡ 0 = x.free m (λ l h leads. leads idle) ∙ changed-at (λ k. 1) m 0 m refl in
      (t, u, (w.numbers, w.solved), (x.numbers, x.solved), λ e. let z : ⊥ = omega arith in z)
