-- Sequences that are lent are read as they were; the largest length is one of the lengths, and none is above it.
use mathlib.Core.Path.{◌≡◌, refl, ap, ap₂, ◌∙◌}
use mathlib.Core.List.{List, [], ◌∷◌, map}
use Prim.Native.Nat.{ℕ, zero, suc, ◌≤◌, ◌<◌, max}
use native.Mathlib.Decide.{dec_lt}
use native.Mathlib.Omega.{arith}
use lib.ListN.{length, get_or}
use lib.Seq.{take_at, drop_at}
use Rattle.lists.specs.Tabulate.{joined}
use Rattle.register.specs.Lent.{Lent}
use Rattle.register.specs.Sequences.{largest, split}

split-back : (ss : List (List ℕ)) → split (map length ss) (joined ss) ≡ ss
unfolding split joined
split-back [] = refl
split-back (s ∷ ss) = ap₂ ◌∷◌ (take_at s (joined ss) (length s) refl) (ap (split (map length ss)) (drop_at s (joined ss) (length s) refl) ∙ split-back ss)

bounds : (lengths : List ℕ) (h : ℕ) → h < length lengths → get_or lengths h 0 ≤ largest lengths
unfolding largest
bounds [] h l = absurd (let z : ⊥ = omega arith in z)
bounds (n ∷ ns) zero l = omega arith
bounds (n ∷ ns) (suc h) l = omega (arith, bounds ns h (omega arith))

reached : (lengths : List ℕ) → 0 < length lengths → (h : ℕ) × (h < length lengths) × (get_or lengths h 0 ≡ largest lengths)
unfolding largest
reached [] l = absurd (let z : ⊥ = omega arith in z)
reached (n ∷ []) l = (0, omega arith, omega arith)
reached (n ∷ m ∷ ns) l = pick (dec_lt n (largest (m ∷ ns))) (reached (m ∷ ns) (omega arith))
  where
    pick : Dec (n < largest (m ∷ ns)) → ((h : ℕ) × (h < length (m ∷ ns)) × (get_or (m ∷ ns) h 0 ≡ largest (m ∷ ns))) →
        (h : ℕ) × (h < length (n ∷ m ∷ ns)) × (get_or (n ∷ m ∷ ns) h 0 ≡ largest (n ∷ m ∷ ns))
    pick (yes a) (h, l, e) = (suc h, omega arith, e ∙ (let s : largest (m ∷ ns) ≡ max n (largest (m ∷ ns)) = omega arith in s))
    pick (no a) (h, l, e) = (0, omega arith, let s : n ≡ max n (largest (m ∷ ns)) = omega arith in s)

pub lent : Lent
lent = record { split-back = split-back; bounds = bounds; reached = reached }
