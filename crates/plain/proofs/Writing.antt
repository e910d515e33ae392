-- An array that is written place after place.
use Rattle.std.proofs.Common.{◌≡◌, ℕ, ◌+◌, ◌<◌, ◌≤◌, ◌≢◌, List, length, get_or, set, sym, refl, ap, ◌∙◌, subst, arith, length-set, get_or-set_other, get_or-set_same}
use native.Mathlib.Decide.{ℕ_discrete}
use Rattle.plain.specs.Written.{Wrote}

pub wrote_none : (l : List ℕ) (a : ℕ) (f : ℕ → ℕ) → Wrote l l a a f
wrote_none l a f = record {
  size = refl;
  within = λ k low high less. absurd (let z : ⊥ = omega arith in z);
  before = λ k less. refl;
  after = λ k less. refl;
}

module _ (old new : List ℕ) (a b : ℕ) (f : ℕ → ℕ) (w : Wrote old new a b f) (low : a ≤ b) where
  wrote-more : (v : ℕ) → v ≡ f b → Wrote old (set new b v) a (b + 1) f
  wrote-more v e = record {
    size = length-set new b v ∙ w.size;
    within = λ k l h less. at k l h less (ℕ_discrete k b);
    before = λ k less. other k (omega arith) ∙ w.before k less;
    after = λ k less. other k (omega arith) ∙ w.after k (omega arith);
  }
    where
      other : (k : ℕ) → k ≢ b → get_or (set new b v) k 0 ≡ get_or new k 0
      other k q = get_or-set_other new b k v 0 q

      at : (k : ℕ) → a ≤ k → k < b + 1 → k < length old → Dec (k ≡ b) → get_or (set new b v) k 0 ≡ f k
      at k l h less (yes q) =
          ap (λ (j : ℕ). get_or (set new b v) j 0) q ∙ get_or-set_same new b v 0 (let s = w.size in omega arith)
          ∙ e ∙ ap f (sym q)
      at k l h less (no q) = other k q ∙ w.within k l (omega arith) less

-- the same, of the array that the store left
pub wrote-put : {old new next : List ℕ} {f : ℕ → ℕ} (a b v : ℕ) → Wrote old new a b f → a ≤ b → next ≡ set new b v → v ≡ f b → Wrote old next a (b + 1) f
wrote-put {old} {new} {next} {f} a b v w low e q = subst (λ (l : List ℕ). Wrote old l a (b + 1) f) (sym e) (wrote-more old new a b f w low v q)

-- the last place was reached
pub wrote-all : {old new : List ℕ} {f : ℕ → ℕ} (a i n : ℕ) → Wrote old new a i f → i ≤ n → n ≤ i → Wrote old new a n f
wrote-all {old} {new} {f} a i n w le ge = subst (λ (k : ℕ). Wrote old new a k f) (let e : i ≡ n = omega arith in e) w
