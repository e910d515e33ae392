-- The search block after block: what is so between two of them, and when one is tried.
use Rattle.std.specs.Prelude.{◌≡◌, List, ℕ, ◌%◌, ◌≤◌, ◌<◌}
use Rattle.columns.specs.Columns.{marking}
use Rattle.decoding.specs.Search.{tried_for}
use Rattle.decoding.specs.Searching.{searched, Trying}
use Rattle.field257.specs.Table.{table}
use Rattle.search.specs.declared.blocks.Trial.{Trial}

-- Of n columns those below i are tried, whole blocks or all; the words mark the roots among them, and some are left to find.
pub record Searching (σ : List ℕ) (n i left : ℕ) (words : List ℕ) : Type 0 where
  pub within : i ≤ n
  pub whole : i < n → i % 64 ≡ 0
  pub marked : marking words ≡ searched σ i
  pub trying : Trying σ n i left

-- a block can be tried: there are more columns
pub record Blockable (powers σ : List ℕ) (n i left : ℕ) (words : List ℕ) : Type 0 where
  pub powers_known : powers ≡ table
  pub few : n ≤ 256
  pub more : i < n
  pub searching : Searching σ n i left words

-- after the block from column i on the search is over, or it goes on
pub record Tried (σ : List ℕ) (n i : ℕ) (words : List ℕ) (r : Trial) : Type 0 where
  pub marked : marking words ≡ searched σ r.tried
  pub ends : r.left ≡ 0 → r.tried ≡ tried_for n σ
  pub goes_on : 0 < r.left → (i < r.tried) × Searching σ n r.tried r.left words
