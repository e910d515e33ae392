-- The places of the sequences before the first round of Algorithm 4, and the alone mark after the last.
use Rattle.std.specs.Prelude.{◌≡◌, Bool, List, ℕ, ◌+◌, ◌-◌, ◌≤◌, ◌<◌, max, leb, length, get_or}
use Rattle.lists.specs.Tabulate.{every}

-- the places of k sequences can be set, and the alone mark read off: none is longer than N
pub record Startable (N : ℕ) (lengths : List ℕ) (k : ℕ) : Type 0 where
  pub longest : N ≤ 128
  pub count : k ≤ 8
  pub shorter : (h : ℕ) → h < k → get_or lengths h 0 ≤ N

-- the places before the first round, once those of k sequences are set
pub record Started (N : ℕ) (lengths : List ℕ) (k : ℕ) (places : List ℕ) : Type 0 where
  pub width : length places ≡ 8
  pub place : (h : ℕ) → h < k → get_or places h 0 ≡ N - get_or lengths h 0

-- whether nothing of sequence h is free after all N rounds
abbrev pub mark_test : (N : ℕ) (lengths : List ℕ) (l : ℕ) (places sizes : List ℕ) (h : ℕ) → Bool
mark_test N lengths l places sizes h = leb (get_or places h 0) (get_or sizes h 0 + max (N - l) (N - get_or lengths h 0))

-- the alone mark, read off the arrays
unfoldable pub alone_mark : (N : ℕ) (lengths : List ℕ) (k l : ℕ) (places sizes : List ℕ) → Bool
alone_mark N lengths k l places sizes = every k (mark_test N lengths l places sizes)
