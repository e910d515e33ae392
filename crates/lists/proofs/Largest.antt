-- The largest of n counts, found count after count: a test that passes below each of them is one that passes below the largest.
use mathlib.Core.Path.{◌≡◌, refl, sym, ap, ap₂, ◌∙◌}
use mathlib.Core.Bool.{Bool, true, false, ◌&&◌, and_comm, and-false}
use Prim.Native.Nat.{ℕ, zero, suc, ◌+◌, ◌≤◌, ◌<◌, max, zero-le}
use native.Mathlib.Decide.{dec_le}
use native.Mathlib.Nat.{le_antisymm}
use native.Mathlib.Numerals.{add-one}
use native.Mathlib.Omega.{arith}
use Rattle.lists.specs.Tabulate.{every}
use Rattle.lists.proofs.Tabulated.{every-zero, every-suc, every-at, every_of}

-- the largest of k 0, k 1, .., k (n − 1), or 0
unfoldable pub most : ℕ → (k : ℕ → ℕ) → ℕ
most zero k = 0
most (suc n) k = max (most n k) (k n)

module _ (test : ℕ → Bool) where
  every-within : (a b : ℕ) → a ≤ b → every b test ≡ (every a test && every b test)
  every-within a b le = pick (every b test) refl
    where
      pick : (t : Bool) → every b test ≡ t → every b test ≡ (every a test && every b test)
      pick true e = e ∙ sym (ap₂ ◌&&◌ (every_of a test (λ i l. every-at b test e i (omega arith))) e)
      pick false e = e ∙ sym (ap (λ (t : Bool). every a test && t) e ∙ and-false (every a test))

  every-max : (a b : ℕ) → every (max a b) test ≡ (every a test && every b test)
  every-max a b = pick (dec_le a b)
    where
      pick : Dec (a ≤ b) → every (max a b) test ≡ (every a test && every b test)
      pick (yes l) = ap (λ (m : ℕ). every m test) (let e : max a b ≡ b = omega arith in e) ∙ every-within a b l
      pick (no l) =
          ap (λ (m : ℕ). every m test) (let e : max a b ≡ a = omega arith in e) ∙ every-within b a (omega arith)
          ∙ and_comm (every b test) (every a test)

  pub every-most : (n : ℕ) (k : ℕ → ℕ) → every (most n k) test ≡ every n (λ h. every (k h) test)
  unfolding most
  every-most zero k = every-zero test ∙ sym (every-zero (λ h. every (k h) test))
  every-most (suc n) k =
      every-max (most n k) (k n) ∙ ap (λ (t : Bool). t && every (k n) test) (every-most n k) ∙ sym (every-suc n (λ h. every (k h) test))

pub most-bound : (B n : ℕ) (k : ℕ → ℕ) → ((h : ℕ) → h < n → k h ≤ B) → most n k ≤ B
unfolding most
most-bound B zero k small = zero-le
most-bound B (suc n) k small = omega (arith, most-bound B n k (λ h l. small h (omega arith)), small n (omega arith))

module _ (n : ℕ) (k : ℕ → ℕ) where
  -- m is the largest of the first h counts
  pub record Largest (h m : ℕ) : Type 0 where
    pub within : h ≤ n
    pub so_far : m ≡ most h k

  pub largest-none : Largest 0 0
  unfolding most
  largest-none = record { within = zero-le; so_far = refl }

  pub largest-more : (h before : ℕ) → Largest h before → h < n → (m : ℕ) → m ≡ max before (k h) → Largest (h + 1) m
  unfolding most
  largest-more h before a l m e = record {
    within = omega arith;
    so_far = e ∙ ap (λ (x : ℕ). max x (k h)) a.so_far ∙ ap (λ (x : ℕ). most x k) (sym (add-one h));
  }

  pub largest-all : (h m : ℕ) → Largest h m → n ≤ h → m ≡ most n k
  largest-all h m a le = a.so_far ∙ ap (λ (x : ℕ). most x k) (le_antisymm a.within le)
