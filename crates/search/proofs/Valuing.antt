-- The values at 64 factors, lane after lane within a step and tap after tap.
use mathlib.Core.Path.{◌≡◌, sym, ap, ◌∙◌}
use mathlib.Core.List.{List}
use Prim.Native.Nat.{ℕ, ◌+◌, ◌%◌, ◌≤◌, ◌<◌}
use native.Mathlib.Numerals.{add-one}
use native.Mathlib.Omega.{arith}
use lib.ListN.{length, get_or, set, length-replicate}
use Rattle.field257.specs.Montgomery.{companion, montgomery}
use Rattle.lists.specs.Tabulate.{tabulate}
use Rattle.lists.proofs.Filling.{Filled, filled_more, filled-rest, filled-all}
use Rattle.lists.proofs.Tabulated.{length-tabulate, get_d_tabulate}
use Rattle.lists.proofs.Zeros.{zeros, zeros-entry}
use Rattle.search.specs.Values.{Steppable}
use Rattle.weights.specs.Weights.{carried}
use Rattle.weights.proofs.Division.{carried-zero, carried-more}

-- ---- one step

module _ (tap : ℕ) (x v₀ : List ℕ) where
  -- what lane j has after the step
  abbrev stepped : ℕ → ℕ
  stepped j = tap + montgomery (get_or v₀ j 0) (get_or x j 0)

  -- i lanes are stepped
  abbrev pub Stepping : (i : ℕ) (v : List ℕ) → Type 0
  Stepping i v = Filled stepped v₀ i v

  module _ (z : List ℕ) (asked : Steppable tap x z v₀) (i : ℕ) where
    -- the factor of a lane, and its companion
    pub factor : i < 64 → (get_or x i 0 ≤ 257) × (get_or z i 0 ≡ companion (get_or x i 0))
    factor inside =
        let small = asked.factors.small i inside in
        (omega arith, ap (λ (l : List ℕ). get_or l i 0) asked.companions ∙ get_d_tabulate 64 (λ k. companion (get_or x k 0)) i 0 inside)

    pub stepping_more : (v : List ℕ) → Stepping i v → i < 64 → (a : ℕ) → a ≡ montgomery (get_or v i 0) (get_or x i 0) → Stepping (i + 1) (set v i (tap + a))
    stepping_more v so_far inside a e =
        let size = asked.size in
        filled_more stepped v₀ i (tap + a) v so_far (let s = so_far.size in omega arith)
        (ap (λ (m : ℕ). tap + m) (e ∙ ap (λ (m : ℕ). montgomery m (get_or x i 0)) (filled-rest stepped v₀ i v so_far i (omega arith) (omega arith))))

    pub stepping_all : (v : List ℕ) → Stepping i v → 64 ≤ i → v ≡ tabulate 64 stepped
    stepping_all v so_far all =
        filled-all stepped v₀ i v so_far (let s = so_far.size in let size = asked.size in omega arith)
        ∙ ap (λ (n : ℕ). tabulate n stepped) asked.size

-- ---- all taps

module _ (σ x : List ℕ) where
  -- Horner's rule has gone through k taps in every lane
  pub record Valued (k : ℕ) (v : List ℕ) : Type 0 where
    pub within : k ≤ length σ
    pub size : length v ≡ 64
    pub lanes : (i : ℕ) → i < 64 → get_or v i 0 % 257 ≡ carried σ (get_or x i 0) k

  pub valued_none : Valued 0 (zeros 64)
  valued_none = record {
    within = omega arith;
    size = (let none : ℕ = 0 in length-replicate 64 none);
    lanes = λ i l. ap (λ (v : ℕ). v % 257) (zeros-entry 64 i) ∙ sym (carried-zero σ (get_or x i 0));
  }

  pub valued_more : (k : ℕ) (v v' : List ℕ) (tap : ℕ) → Valued k v → k < length σ → tap % 257 ≡ get_or σ k 0 % 257
      → v' ≡ tabulate 64 (λ i. tap + montgomery (get_or v i 0) (get_or x i 0)) → Valued (k + 1) v'
  valued_more k v v' tap a inside same e = rw (e, add-one k) (record {
    within = omega arith;
    size = length-tabulate 64 _;
    lanes = λ i l.
        ap (λ (m : ℕ). m % 257) (get_d_tabulate 64 (λ i. tap + montgomery (get_or v i 0) (get_or x i 0)) i 0 l)
        ∙ carried-more σ (get_or x i 0) k (get_or v i 0) tap (a.lanes i l) same;
  })

  pub valued_all : (k : ℕ) (v : List ℕ) → Valued k v → length σ ≤ k → (i : ℕ) → i < 64 → get_or v i 0 % 257 ≡ carried σ (get_or x i 0) (length σ)
  valued_all k v a all i l = a.lanes i l ∙ ap (carried σ (get_or x i 0)) (let w = a.within in let e : k ≡ length σ = omega arith in e)
