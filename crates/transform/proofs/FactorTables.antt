-- The parts of a table of factors, and what of a row and of the table tells the values of the weighed row.
use mathlib.Core.Path.{◌≡◌, ap, ap₂, ◌∙◌}
use mathlib.Core.List.{List}
use Prim.Native.Nat.{ℕ, ◌+◌, ◌*◌, ◌%◌, ◌^◌, ◌≤◌, ◌<◌}
use native.Mathlib.Omega.{arith}
use borrow.Rule.Slice.PartMut.{mid_of, mid_len}
use lib.ListN.{get_or, drop, length-drop}
use lib.Seq.{length-take-le}
use Rattle.lists.proofs.Entries.{get_d_part}
use Rattle.lists.proofs.Totals.{total_ext}
use Rattle.butterflies.specs.Butterflies.{Factors}
use Rattle.transform.specs.Stages.{Staging, factor_of, weighed_sum}

factor-small : (n k : ℕ) → factor_of n k ≤ 257
unfolding factor_of
factor-small n k = omega arith

module _ (t : List ℕ) (staging : Staging t) where
  pub first_part : (k : ℕ) → k < 256 → get_or (mid_of 0 256 t) k 0 ≡ get_or t k 0
  first_part k h = get_d_part 0 256 t k 0 h ∙ ap (λ (i : ℕ). get_or t i 0) (let e : 0 + k ≡ k = omega arith in e)

  pub first-factors : Factors (mid_of 0 256 t)
  first-factors = record {
    size = mid_len 0 256 t (let s = staging.size in omega arith);
    small = λ k h. let e = first_part k h in let l = staging.small k h in omega arith;
  }

  -- before stage s
  module _ (s : ℕ) (one : 1 ≤ s) (four : s < 4) where
    pub later-part : (k : ℕ) → k < 256 → get_or (mid_of (256 * s) 256 t) k 0 ≡ factor_of (4 ^ s) k
    later-part k h = get_d_part (256 * s) 256 t k 0 h ∙ staging.later s k one four h

    pub later-factors : Factors (mid_of (256 * s) 256 t)
    later-factors = record {
      size = length-take-le 256 (drop (256 * s) t) (let size = staging.size in omega (arith, length-drop (256 * s) t));
      small = λ k h. let e = later-part k h in let l = factor-small (4 ^ s) k in omega arith;
    }

-- ---- the values of the weighed row

-- the row may have zeros after it, and the factors others
pub weighed-same : (t u x y : List ℕ) (k : ℕ) → ((i : ℕ) → i < 256 → get_or t i 0 ≡ get_or u i 0) → ((i : ℕ) → get_or x i 0 ≡ get_or y i 0)
    → weighed_sum t x k ≡ weighed_sum u y k
unfolding weighed_sum
weighed-same t u x y k factors symbols =
    ap (λ (s : ℕ). s % 257)
    (total_ext 256 (λ i. get_or x i 0 * (get_or t i 0 * 3 ^ (i * k))) (λ i. get_or y i 0 * (get_or u i 0 * 3 ^ (i * k)))
    (λ i h. ap₂ (λ (v w : ℕ). v * (w * 3 ^ (i * k))) (symbols i) (factors i h)))
