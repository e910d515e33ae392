-- How many columns are tried for c that pass: the least number below which c pass, or all.
use mathlib.Core.Path.{◌≡◌, refl, ap, ap₂, ◌∙◌}
use mathlib.Core.Logic.{◌⊎◌, inl, inr}
use mathlib.Core.Bool.{Bool, true, cond}
use mathlib.Core.List.{List}
use Prim.Native.Nat.{ℕ, zero, suc, ◌≤◌, ◌<◌, zero-le}
use native.Mathlib.Nat.{not-suc-le-zero}
use native.Mathlib.Decide.{dec_lt}
use native.Mathlib.Omega.{arith}
use lib.Dec.{ltb}
use lib.ListN.{get_or}
use borrow.Author.Tests.{lt-ltb, le-ltb}
use Rattle.columns.specs.Listed.{count, listed}
use Rattle.columns.proofs.Listing.{entry, count_ext, count-lt, count_mono, listed_ext}
use Rattle.decoding.specs.Search.{tried, TriedLeast}

module _ (n : ℕ) (P : ℕ → Bool) (k : ℕ) where
  -- where more than k pass, up to and with the one that k passing ones precede
  tried-found : k < count n P → tried n P (suc k) ≡ suc (get_or (listed n P) k 0)
  unfolding tried
  tried-found h = ap (λ (b : Bool). cond b (suc (get_or (listed n P) k 0)) n) (lt-ltb k (count n P) h)

  -- else all
  tried-all : count n P ≤ k → tried n P (suc k) ≡ n
  unfolding tried
  tried-all h = ap (λ (b : Bool). cond b (suc (get_or (listed n P) k 0)) n) (le-ltb k (count n P) h)

most : (n : ℕ) (P : ℕ → Bool) (c : ℕ) → tried n P c ≤ n
unfolding tried
most n P zero = zero-le
most n P (suc k) = elim (dec_lt k (count n P)) [
  | yes h ↦ omega (arith, tried-found n P k h, (entry n P k h).below)
  | no h ↦ omega (arith, tried-all n P k (omega arith))
]

ends : (n : ℕ) (P : ℕ → Bool) (c i : ℕ) → c ≤ count i P → tried n P c ≤ i
unfolding tried
ends n P zero i enough = zero-le
ends n P (suc k) i enough = elim (dec_lt k (count n P)) [
  | yes h ↦ elim (dec_lt (get_or (listed n P) k 0) i) [
    | yes below ↦ omega (arith, tried-found n P k h)
    | no past ↦ omega (arith, (entry n P k h).place, count_mono i (get_or (listed n P) k 0) P (omega arith))
  ]
  | no h ↦ elim (dec_lt i n) [
    | yes below ↦ omega (arith, count_mono i n P (omega arith))
    | no past ↦ omega (arith, tried-all n P k (omega arith))
  ]
]

goes_on : (n : ℕ) (P : ℕ → Bool) (c i : ℕ) → i < n → count i P < c → i < tried n P c
goes_on n P zero i below fewer = absurd (not-suc-le-zero fewer)
goes_on n P (suc k) i below fewer = elim (dec_lt k (count n P)) [
  | yes h ↦ elim (dec_lt (get_or (listed n P) k 0) i) [
    | yes past ↦ omega (arith, (entry n P k h).place, count-lt (get_or (listed n P) k 0) i P past (entry n P k h).passes)
    | no here ↦ omega (arith, tried-found n P k h)
  ]
  | no h ↦ omega (arith, tried-all n P k (omega arith))
]

pub tried-least : TriedLeast
tried-least = record { most = most; ends = ends; goes_on = goes_on }

-- tests that agree below n try alike
pub tried_ext : (n : ℕ) (P Q : ℕ → Bool) (c : ℕ) → ((k : ℕ) → k < n → P k ≡ Q k) → tried n P c ≡ tried n Q c
unfolding tried
tried_ext n P Q zero h = refl
tried_ext n P Q (suc k) h =
    ap₂ (λ (m : ℕ) (l : List ℕ). cond (ltb k m) (suc (get_or l k 0)) n) (count_ext n P Q h) (listed_ext n P Q h)

-- ---- where exactly c pass, the last one tried is the last that passes

module _ (n : ℕ) (P : ℕ → Bool) (c : ℕ) (all : count n P ≡ c) where
  pub passing_tried : (i : ℕ) → i < n → P i ≡ true → i < tried n P c
  passing_tried i below e = goes_on n P c i below (omega (arith, all, count-lt i n P below e))

  pub last-passes : (tried n P c ≡ 0) ⊎ ((i : ℕ) × (i < n) × (P i ≡ true) × (tried n P c ≡ suc i))
  last-passes = pick c refl
    where
      pick : (d : ℕ) → c ≡ d → (tried n P c ≡ 0) ⊎ ((i : ℕ) × (i < n) × (P i ≡ true) × (tried n P c ≡ suc i))
      pick zero e = inl (let z = ends n P c 0 (omega arith) in omega arith)
      pick (suc k) e =
          let at = entry n P k (omega (arith, all)) in
          inr (get_or (listed n P) k 0, at.below, at.passes, ap (tried n P) e ∙ tried-found n P k (omega (arith, all)))
