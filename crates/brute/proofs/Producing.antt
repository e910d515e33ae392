-- Registers and the numbers that meet their conditions: a register of length l generates the sequences exactly where its taps are such
-- numbers. So the conditions tell whether there is one, and whether it is the only one.
use Rattle.std.proofs.Common.{◌≡◌, ℕ, zero, suc, ◌+◌, ◌<◌, ◌≤◌, true, false, List, get_or, sym, refl, ap, ◌∙◌, subst, add-one, arith, ext_get_or}
use native.Mathlib.Decide.{dec_lt, ℕ_discrete}
use lib.ListN.{get_or-eq_default}
use Rattle.lists.proofs.Tabulated.{get_d_tabulate, length-tabulate}
use Rattle.lists.specs.Tabulate.{tabulate}
use Rattle.plain.proofs.Tests.{each_more}
use Rattle.plain.specs.Plain.{Each, sequence}
use Rattle.elimination.proofs.BackSubstitution.{some_solution, two_solutions}
use Rattle.elimination.proofs.Primes.{in_field}
use Rattle.elimination.proofs.OneSolution.{one_solution}
use Rattle.elimination.proofs.Taps.{discrepancy_solves, tabulated_solves}
use Rattle.elimination.specs.Equations.{LeadsRow, Numbers, value_at}
use Rattle.elimination.specs.Prime.{Prime}
use Rattle.brute.specs.Registers.{Gathered, Meets, Produces, Register}

-- a test that fails at some number fails at one that is found
found-idle : (f : ℕ → ℕ) (n : ℕ) → (Each 1 n (λ k. f k ≡ 0 → ⊥) → ⊥) → (m : ℕ) × (1 ≤ m) × (m < n) × (f m ≡ 0)
found-idle f zero never = absurd (never (λ k low high. absurd (let z : ⊥ = omega arith in z)))
found-idle f (suc n) never = pick (dec_lt n 1) (ℕ_discrete (f n) 0) (λ q. found-idle f n q)
  where
    Idle : ℕ → Type 0
    Idle b = (m : ℕ) × (1 ≤ m) × (m < b) × (f m ≡ 0)

    wider : Idle n → Idle (suc n)
    wider w = (w.0, w.1, (let h = w.2 in omega arith), w.3)

    pick : Dec (n < 1) → Dec (f n ≡ 0) → ((Each 1 n (λ k. f k ≡ 0 → ⊥) → ⊥) → Idle n) → Idle (suc n)
    pick (yes none) d before = absurd (never (λ k low high. absurd (let z : ⊥ = omega arith in z)))
    pick (no some) (yes e) before = (n, omega arith, omega arith, e)
    pick (no some) (no e) before =
        wider (before (λ all. never (subst (λ (b : ℕ). Each 1 b (λ k. f k ≡ 0 → ⊥)) (add-one n) (each_more (λ k. f k ≡ 0 → ⊥) 1 n all e))))

module _ (p l : ℕ) (lengths symbols : List ℕ) where
  pub taps-numbers : Prime p → (taps : List ℕ) → Register p l taps → Numbers p (λ k. get_or taps k 0)
  taps-numbers prime taps r = record { one = r.first; below = λ k. pick k (dec_lt k (l + 1)) }
    where
      pick : (k : ℕ) → Dec (k < l + 1) → get_or taps k 0 < p
      pick k (yes h) = r.below k (omega arith) h
      pick k (no h) =
          let z : get_or taps k 0 ≡ 0 = get_or-eq_default taps 0 (let s = r.size in omega arith) in
          let two = prime.two_or_more in omega arith

  pub taps_meet : (taps : List ℕ) → Produces p l lengths symbols taps → Meets p l lengths symbols (λ k. get_or taps k 0)
  taps_meet taps w h low high j least most =
      (discrepancy_solves p (sequence lengths symbols h) taps (l + 1) (λ k. get_or taps k 0) (λ k inside. refl) j).0 (w.generates h low high j least most)

  numbers_produce : (t : ℕ → ℕ) → Numbers p t → Meets p l lengths symbols t → Produces p l lengths symbols (tabulate (l + 1) t)
  numbers_produce t numbers meets = record {
    register = record {
      size = length-tabulate (l + 1) t;
      first = get_d_tabulate (l + 1) t 0 0 (omega arith) ∙ numbers.one;
      below = λ k low high. let e = get_d_tabulate (l + 1) t k 0 high in let b = numbers.below k in omega arith;
    };
    generates = λ h low high j least most. (tabulated_solves p (sequence lengths symbols h) (l + 1) t j).1 (meets h low high j least most);
  }

  module _ (prime : Prime p) (table : List ℕ) (g : Gathered p (l + 1) (Meets p l lengths symbols) table true) where
    pub some-register : (taps : List ℕ) × Produces p l lengths symbols taps
    some-register =
        let (t, numbers, solved) = some_solution p (l + 1) table (in_field p prime) (g.echelon refl) in
        (tabulate (l + 1) t, numbers_produce t numbers ((g.solved refl t numbers).0 solved))

    pub one-register : Each 1 (l + 1) (λ k. LeadsRow table k) → (a b : List ℕ) → Produces p l lengths symbols a → Produces p l lengths symbols b → a ≡ b
    one-register all a b wa wb =
        let na = taps-numbers prime a wa.register in let nb = taps-numbers prime b wb.register in
        ext_get_or 0 a b (wa.register.size ∙ sym wb.register.size)
        (λ k h. one_solution p (l + 1) table (in_field p prime) (g.echelon refl) all (λ i. get_or a i 0) (λ i. get_or b i 0) na nb
        ((g.solved refl (λ i. get_or a i 0) na).1 (taps_meet a wa)) ((g.solved refl (λ i. get_or b i 0) nb).1 (taps_meet b wb)) k
        (let s = wa.register.size in omega arith))

    pub two-registers : (Each 1 (l + 1) (λ k. LeadsRow table k) → ⊥) →
        (a b : List ℕ) × Produces p l lengths symbols a × Produces p l lengths symbols b × (a ≡ b → ⊥)
    two-registers never =
        let (m, low, high, idle) = found-idle (λ k. value_at table k k) (l + 1) never in
        let (t, u, wt, wu, differ) = two_solutions p (l + 1) table (in_field p prime) (g.echelon refl) m low idle in (
          tabulate (l + 1) t,
          tabulate (l + 1) u,
          numbers_produce t wt.0 ((g.solved refl t wt.0).0 wt.1),
          numbers_produce u wu.0 ((g.solved refl u wu.0).0 wu.1),
          λ e. differ (sym (get_d_tabulate (l + 1) t m 0 high) ∙ ap (λ (x : List ℕ). get_or x m 0) e ∙ get_d_tabulate (l + 1) u m 0 high),
        )

  pub no_register : Prime p → (table : List ℕ) → Gathered p (l + 1) (Meets p l lengths symbols) table false → (taps : List ℕ) →
      Produces p l lengths symbols taps → ⊥
  no_register prime table g taps w = g.none refl (λ k. get_or taps k 0) (taps-numbers prime taps w.register) (taps_meet taps w)
