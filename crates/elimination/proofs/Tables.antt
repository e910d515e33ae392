-- A table whose leading values are cleared one after the other.
use mathlib.Core.Path.{◌≡◌, refl, sym, ap, ◌∙◌}
use mathlib.Core.List.{List}
use mathlib.Core.Logic.{◌⊎◌, inl, inr}
use Prim.Native.Nat.{ℕ, ◌+◌, ◌≤◌, ◌<◌}
use native.Mathlib.Decide.{dec_lt, ℕ_discrete}
use native.Mathlib.Omega.{arith}
use lib.ListN.{length, get_or, set, length-set, get_or-eq_default}
use lib.Seq.{get_or-set_same, get_or-set_other}
use Rattle.elimination.specs.Equations.{Cleared, place_of}

pub cleared-none : (l : List ℕ) → Cleared l l 1
cleared-none l = record { size = refl; leads = λ k low high. absurd (let z : ⊥ = omega arith in z); kept = λ m out. refl }

pub cleared_more : (i at : ℕ) {old new next : List ℕ} → Cleared old new i → 1 ≤ i → at ≡ place_of i i → next ≡ set new at 0 → Cleared old next (i + 1)
cleared_more i at {old} {new} {next} w low p e = record {
  size = ap length e ∙ length-set new at 0 ∙ w.size;
  leads = λ k l h. leads k l h (ℕ_discrete (place_of k k) at) (ℕ_discrete k i);
  kept = λ m out. other m (λ q. out i low (omega arith) (q ∙ p)) ∙ w.kept m (λ k l h. out k l (omega arith));
}
  where
    other : (m : ℕ) → (m ≡ at → ⊥) → get_or next m 0 ≡ get_or new m 0
    other m n = ap (λ (l : List ℕ). get_or l m 0) e ∙ get_or-set_other new at m 0 0 n

    here : Dec (at < length new) → get_or (set new at 0) at 0 ≡ 0
    here (yes less) = get_or-set_same new at 0 0 less
    here (no past) = get_or-eq_default (set new at 0) 0 (let s = length-set new at 0 in omega arith)

    zero : get_or next at 0 ≡ 0
    zero = ap (λ (l : List ℕ). get_or l at 0) e ∙ here (dec_lt at (length new))

    leads : (k : ℕ) → 1 ≤ k → k < i + 1 → Dec (place_of k k ≡ at) → Dec (k ≡ i) → get_or next (place_of k k) 0 ≡ 0
    leads k l h (yes q) d = ap (λ (m : ℕ). get_or next m 0) q ∙ zero
    leads k l h (no q) (yes s) = absurd (q (ap (λ (m : ℕ). place_of m m) s ∙ sym p))
    leads k l h (no q) (no s) = other (place_of k k) q ∙ w.leads k l (omega arith)

pub cleared-all : (i n : ℕ) {old new : List ℕ} → Cleared old new i → n ≤ i → (i ≤ n) ⊎ (i ≤ 1) → Cleared old new n
cleared-all i n w ge (inl le) = record {
  size = w.size;
  leads = λ k l h. w.leads k l (omega arith);
  kept = λ m out. w.kept m (λ k l h. out k l (omega arith));
}
cleared-all i n w ge (inr le) = record {
  size = w.size;
  leads = λ k l h. absurd (let z : ⊥ = omega arith in z);
  kept = λ m out. w.kept m (λ k l h. absurd (let z : ⊥ = omega arith in z));
}
