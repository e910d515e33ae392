-- The table of factors that is lent to the stages.
use Rattle.std.specs.Prelude.{◌≡◌, List, ℕ, ◌*◌, ◌/◌, ◌%◌, ◌^◌, ◌<◌, get_or}
use Rattle.lists.specs.Tabulate.{tabulate}
use Rattle.field257.specs.Powers.{power_of3}
use Rattle.transform.specs.Stages.{Staging, factor_of}

-- the factors before stages that read 1, 4, 16 and 64 classes
unfoldable pub factor_table : List ℕ
factor_table = tabulate 1024 (λ k. factor_of (4 ^ (k / 256)) (k % 256))

-- the table where the columns are multiplied by the powers of 3^b
pub record Weights (b : ℕ) (t : List ℕ) : Type 0 where
  pub staging : Staging t
  pub columns : (k : ℕ) → k < 256 → get_or t k 0 ≡ power_of3 (b * k)
