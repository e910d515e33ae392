-- The search on its way: what the columns tried so far have, and what is left to find. Where it ends is proved in proofs/Searching.antt.
use Rattle.std.specs.Prelude.{◌≡◌, ◌&&◌, List, ℕ, ◌+◌, ◌-◌, ◌≤◌, ◌<◌, ltb, length}
use Rattle.columns.specs.Columns.{columns_of}
use Rattle.columns.specs.Listed.{count}
use Rattle.columns.specs.declared.Columns.{Columns}
use Rattle.decoding.specs.Locating.{is_root}
use Rattle.decoding.specs.Search.{tried_for}

-- what is found when the columns below i are searched
abbrev pub searched : (σ : List ℕ) (i : ℕ) → Columns
searched σ i = columns_of (λ k. ltb k i && is_root σ k)

-- of n columns those below i are tried, and some are left to find
pub record Trying (σ : List ℕ) (n i left : ℕ) : Type 0 where
  pub tried : i ≤ tried_for n σ
  pub found : left + count i (is_root σ) ≡ length σ - 1
  pub more : 0 < left
