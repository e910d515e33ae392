-- What is asked where taps are evaluated at 64 columns side by side.
use Rattle.std.specs.Prelude.{◌≡◌, List, ℕ, ◌≤◌, ◌<◌, length, get_or}
use Rattle.field257.specs.Montgomery.{companion}
use Rattle.lists.specs.Tabulate.{tabulate}

-- 64 points, each at most 256
pub record Points (x : List ℕ) : Type 0 where
  pub size : length x ≡ 64
  pub small : (i : ℕ) → i < 64 → get_or x i 0 ≤ 256

-- the values v at the points x with the companions z go on by a tap; there is room for the sum
pub record Steppable (tap : ℕ) (x z v : List ℕ) : Type 0 where
  pub light : tap ≤ 512
  pub factors : Points x
  pub companions : z ≡ tabulate 64 (λ k. companion (get_or x k 0))
  pub size : length v ≡ 64
