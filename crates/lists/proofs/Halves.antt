-- Products summed by halves of 16 bits, up to a multiple of 8 of them, of which those past the first few are 0.
use mathlib.Core.Path.{◌≡◌, sym, ap, ◌∙◌}
use Prim.Native.Nat.{ℕ, ◌+◌, ◌-◌, ◌*◌, ◌/◌, ◌%◌, ◌≤◌, ◌<◌, zero-le}
use native.Mathlib.Numerals.{add-one}
use native.Mathlib.Omega.{arith}
use Rattle.lists.specs.Total.{total}
use Rattle.lists.proofs.Totals.{total-zero, total-suc, total-bound, total-split}

-- k of n terms are summed: the lower halves, and the upper ones
pub record Halved (n : ℕ) (f : ℕ → ℕ) (k low high : ℕ) : Type 0 where
  pub within : k ≤ n
  pub lows : low ≤ k * 65535
  pub highs : high ≤ k * 65535
  pub so_far : low + 65536 * high ≡ total k f

module _ (n : ℕ) (f : ℕ → ℕ) where
  pub halved_none : Halved n f 0 0 0
  halved_none = record { within = zero-le; lows = zero-le; highs = zero-le; so_far = sym (total-zero f) }

  pub halved-more : (k low high : ℕ) → Halved n f k low high → k < n → {a b : ℕ} → a ≡ f k % 65536 → b ≡ f k / 65536 → b < 65536
      → Halved n f (k + 1) (low + a) (high + b)
  halved-more k low high h less {a} {b} ea eb small =
      record {
        within = omega arith;
        lows = let l = h.lows in omega arith;
        highs = let l = h.highs in omega arith;
        so_far =
            (let e : low + a + 65536 * (high + b) ≡ low + 65536 * high + f k = omega arith in e)
            ∙ ap (λ (x : ℕ). x + f k) h.so_far ∙ sym (total-suc k f) ∙ ap (λ (m : ℕ). total m f) (sym (add-one k));
      }

-- a sum of 136 halves fits 32 bits
pub half_fits : {n k s x : ℕ} → n ≤ 136 → k < n → s ≤ k * 65535 → x < 65536 → s + x < 4294967296
half_fits few less le small = omega arith

-- the terms past the first m are 0
pub total_first : (m n : ℕ) (f : ℕ → ℕ) → m ≤ n → ((k : ℕ) → m ≤ k → k < n → f k ≡ 0) → total n f ≡ total m f
total_first m n f le none =
    ap (λ (x : ℕ). total x f) (let e : n ≡ m + (n - m) = omega arith in e) ∙ total-split m (n - m) f
    ∙ ap (λ (x : ℕ). total m f + x) rest ∙ (let e : total m f + 0 ≡ total m f = omega arith in e)
  where
    rest : total (n - m) (λ k. f (m + k)) ≡ 0
    rest =
        let b = total-bound (n - m) 0 (λ k. f (m + k)) (λ k inside. let e = none (m + k) (omega arith) (omega arith) in omega arith) in
        omega arith
