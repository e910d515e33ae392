-- Lanes: one for each column, given by the column's locator x. A lane divides a polynomial f by 1 − x·z, coefficient after coefficient, and has of the quotient
-- so far its last coefficient, its value by Horner's rule, and what was read off check sums with it. What is asked of one step and of all, and what they leave.
-- Numbers are modulo 257 and not reduced.
use Rattle.std.specs.Prelude.{◌≡◌, List, ℕ, suc, ◌+◌, ◌-◌, ◌*◌, ◌%◌, ◌≤◌, ◌<◌, length, get_or}
use Rattle.field257.specs.Montgomery.{companion, montgomery}
use Rattle.lanes.specs.declared.run.Lanes.{Lanes}
use Rattle.lists.specs.Tabulate.{tabulate}
use Rattle.lists.specs.Total.{total}
use Rattle.weights.specs.Weights.{carried}

-- the first n entries of x are locators, or 0, and those of z their companions
pub record LocatorsLent (n : ℕ) (x z : List ℕ) : Type 0 where
  pub few : n ≤ 64
  pub locators : (i : ℕ) → i < n → get_or x i 0 ≤ 256
  pub companions : (i : ℕ) → i < n → get_or z i 0 ≡ companion (get_or x i 0)

-- the arrays of the coefficients, the values and the totals are whole
pub record Whole (q v t : List ℕ) : Type 0 where
  pub quotients : length q ≡ 64
  pub values : length v ≡ 64
  pub totals : length t ≡ 64

-- n lanes go on by the coefficient c and the check sum s; there is room for what is read off
pub record Steppable (n c s : ℕ) (x z q v t : List ℕ) : Type 0 where
  pub lent : LocatorsLent n x z
  pub whole : Whole q v t
  pub coefficient : c ≤ 256
  pub sum : s ≤ 256
  pub room : (i : ℕ) → i < n → get_or t i 0 ≤ 4294770431

-- from the coefficients q, values v and totals t to q', v' and t'
pub record Stepped (n c s : ℕ) (x q v t q' v' t' : List ℕ) : Type 0 where
  pub quotients : (i : ℕ) → i < n → get_or q' i 0 ≡ c + montgomery (get_or q i 0) (get_or x i 0)
  pub values : (i : ℕ) → i < n → get_or v' i 0 ≡ get_or q' i 0 + montgomery (get_or v i 0) (get_or x i 0)
  pub totals : (i : ℕ) → i < n → get_or t' i 0 ≡ get_or t i 0 + get_or q' i 0 * s
  pub small : (i : ℕ) → i < n → get_or q' i 0 ≤ 769
  pub whole : Whole q' v' t'

-- m lanes go through the first m coefficients of f and the first m check sums
pub record Runnable (m : ℕ) (f sums x z : List ℕ) : Type 0 where
  pub lent : LocatorsLent m x z
  pub reach : m ≤ length sums
  pub coefficients : (k : ℕ) → get_or f k 0 < 257
  pub sums-small : (k : ℕ) → get_or sums k 0 < 257

-- Coefficient k of the quotient in the lane of x is `carried f x (suc k)`. Horner's rule at x, from the constant coefficient on, is synthetic division once
-- more; coefficient k is read off from the sum S_(m − k).
pub record Ran (m : ℕ) (f sums x : List ℕ) (r : Lanes) : Type 0 where
  pub values : (i : ℕ) → i < m → get_or r.values i 0 % 257 ≡ (let y : ℕ = get_or x i 0 in carried (tabulate m (λ k. carried f y (suc k))) y m)
  pub totals : (i : ℕ) → i < m
      → get_or r.totals i 0 % 257 ≡ total m (λ k. carried f (get_or x i 0) (suc k) * get_or sums (m - suc k) 0) % 257
