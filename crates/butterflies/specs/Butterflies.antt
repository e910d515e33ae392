-- Butterflies: four columns that lie 64 apart, and the values that a stage makes of them.
use Rattle.std.specs.Prelude.{◌≡◌, List, ℕ, ◌+◌, ◌*◌, ◌%◌, ◌≤◌, ◌<◌, length, get_or}
use Rattle.lists.specs.Total.{total}
use Rattle.field257.specs.Powers.{power_of3}

-- the columns l, 64 + l, 128 + l and 192 + l, each times its factor in t, as coefficients of a polynomial: its value at 3^(64 m), not reduced
unfoldable pub butterfly : (t x : List ℕ) (l m : ℕ) → ℕ
butterfly t x l m = total 4 (λ j. get_or x (64 * j + l) 0 * (get_or t (64 * j + l) 0 * power_of3 (64 * j * m)))

-- a stage has a butterfly for each four columns
pub record Butterflies (t x y : List ℕ) : Type 0 where
  pub size : length y ≡ 256
  pub entries : (l m : ℕ) → l < 64 → m < 4 → get_or y (4 * l + m) 0 % 257 ≡ butterfly t x l m % 257

-- factors by which columns may be multiplied
pub record Factors (t : List ℕ) : Type 0 where
  pub size : length t ≡ 256
  pub small : (k : ℕ) → k < 256 → get_or t k 0 ≤ 257

-- v stands for column k times its factor: not reduced, and so small that sums of four with signs fit
pub record Weighed (t x : List ℕ) (k v : ℕ) : Type 0 where
  pub same : v % 257 ≡ (get_or x k 0 * get_or t k 0) % 257
  pub bounded : v ≤ 513
