-- Counting up digit after digit.
use Rattle.std.proofs.Common.{◌≡◌, ℕ, ◌+◌, ◌*◌, ◌<◌, ◌≤◌, ◌≢◌, List, length, get_or, set, sym, refl, ap, ◌∙◌, subst, arith, length-set, get_or-set_other, get_or-set_same}
use native.Mathlib.Decide.{dec_lt, ℕ_discrete}
use lib.ListN.{get_or-eq_default}
use Rattle.plain.specs.Counting.{Carried, Counted}
use Rattle.plain.specs.Plain.{rem}

pub carried_none : (p : ℕ) (l : List ℕ) (from : ℕ) → Carried p l l from from
carried_none p l from = record {
  size = refl;
  last = λ k low high. absurd (let z : ⊥ = omega arith in z);
  cleared = λ k low high. absurd (let z : ⊥ = omega arith in z);
  before = λ k less. refl;
  after = λ k less. refl;
}

module _ (p : ℕ) (old new next : List ℕ) (from i v : ℕ) (w : Carried p old new from i) (low : from ≤ i) (e : next ≡ set new i v)
    (q : v ≡ rem (get_or new i 0 + 1 * 1) p) where
  size-kept : length next ≡ length old
  size-kept = ap length e ∙ length-set new i v ∙ w.size

  other : (k : ℕ) → k ≢ i → get_or next k 0 ≡ get_or new k 0
  other k n = ap (λ (l : List ℕ). get_or l k 0) e ∙ get_or-set_other new i k v 0 n

  here : i < length old → get_or next i 0 ≡ v
  here less = ap (λ (l : List ℕ). get_or l i 0) e ∙ get_or-set_same new i v 0 (let s = w.size in omega arith)

  next-digit : v ≡ rem (get_or old i 0 + 1) p
  next-digit = q ∙ ap (λ (x : ℕ). rem (x + 1) p) (w.after i (omega arith))

  pub carried-more : v ≡ 0 → Carried p old next from (i + 1)
  carried-more z = record {
    size = size-kept;
    last = λ k l h. last k l h (ℕ_discrete k i);
    cleared = λ k l h. cleared k l h (ℕ_discrete k i) (dec_lt k (length old));
    before = λ k less. other k (omega arith) ∙ w.before k less;
    after = λ k less. other k (omega arith) ∙ w.after k (omega arith);
  }
    where
      last : (k : ℕ) → from ≤ k → k < i + 1 → Dec (k ≡ i) → rem (get_or old k 0 + 1) p ≡ 0
      last k l h (yes s) = ap (λ (m : ℕ). rem (get_or old m 0 + 1) p) s ∙ sym next-digit ∙ z
      last k l h (no s) = w.last k l (omega arith)

      cleared : (k : ℕ) → from ≤ k → k < i + 1 → Dec (k ≡ i) → Dec (k < length old) → get_or next k 0 ≡ 0
      cleared k l h (yes s) (yes less) = ap (λ (m : ℕ). get_or next m 0) s ∙ here (omega arith) ∙ z
      cleared k l h (yes s) (no past) = get_or-eq_default next 0 (let s = size-kept in omega arith)
      cleared k l h (no s) d = other k s ∙ w.cleared k l (omega arith)

  pub counted : (to : ℕ) → i < to → (v ≡ 0 → ⊥) → Counted p old next from to i
  counted to high n = record {
    low = low;
    high = high;
    size = size-kept;
    last = w.last;
    cleared = λ k l h. other k (omega arith) ∙ w.cleared k l h;
    inner = λ z. n (next-digit ∙ z);
    risen = λ less. here less ∙ next-digit;
    before = λ k less. other k (omega arith) ∙ w.before k less;
    after = λ k less. other k (omega arith) ∙ w.after k (omega arith);
  }

pub carried-all : (p : ℕ) (old new : List ℕ) (from i to : ℕ) → Carried p old new from i → i ≤ to → to ≤ i → Carried p old new from to
carried-all p old new from i to w le ge = subst (λ (k : ℕ). Carried p old new from k) (let e : i ≡ to = omega arith in e) w
