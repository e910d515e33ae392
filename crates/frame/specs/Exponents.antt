-- What the exponent of a shape is (SPECIFICATION.md, "Frames"): check sums that begin at the exponent b + 1 are those that begin at b without the first, and
-- the first at the exponent 0 is the sum of the symbols. With the exponent 1 the symbol at column i counts 3^(i·j) in S_j, and 32 is never given: what is
-- stated for each exponent is then what was stated before shapes had one. Proved in proofs/Exponents.antt.
use Rattle.std.specs.Prelude.{◌≡◌, List, [], ◌∷◌, ◌↔◌, ℕ, suc, ◌*◌, ◌%◌, ◌^◌, ◌≤◌, ◌<◌, get_or}
use Rattle.lists.specs.Total.{total}
use Rattle.refusal.specs.Order.{First}
use Rattle.frame.specs.Demands.{rows_reason, columns_reason, checks_reason, shape_reasons}
use Rattle.frame.specs.Frame.{row, weight, check_sum, WellFormed, Coded}
use Rattle.frame.specs.Shape.{checks_of}
use Rattle.frame.specs.declared.Shape.{Shape}

pub record EachExponent : Type 0 where
  pub first : (n : ℕ) (x : List ℕ) → check_sum 0 n x 1 ≡ total n (λ i. get_or x i 0) % 257
  pub next : (b n : ℕ) (x : List ℕ) (j : ℕ) → check_sum (suc b) n x j ≡ check_sum b n x (suc j)

-- the check sum S_j as it was before
abbrev pub sum_from_one : (n : ℕ) (x : List ℕ) (j : ℕ) → ℕ
sum_from_one n x j = total n (λ i. get_or x i 0 * 3 ^ (i * j)) % 257

pub record ExponentOne : Type 0 where
  pub weights : (i j : ℕ) → weight 1 i j ≡ 3 ^ (i * j)
  pub sums : (n : ℕ) (x : List ℕ) (j : ℕ) → check_sum 1 n x j ≡ sum_from_one n x j
  pub coded : (s : Shape) (f : List ℕ) → s.exponent ≡ 1 →
      Coded s f ↔
      (WellFormed s f ×
      ((h j : ℕ) → h < s.rows → 1 ≤ j → j ≤ checks_of s h → sum_from_one s.columns (row s.columns f h) j ≡ 0))
  pub refused : (n : ℕ) (checks : List ℕ) (k : ℕ) →
      First k (shape_reasons n checks 1) ↔ First k (rows_reason checks ∷ columns_reason n ∷ checks_reason n checks ∷ [])
