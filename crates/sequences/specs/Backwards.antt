-- Sequences backwards, each in a block of 144 entries of its own, as discrepancies read them.
use Rattle.std.specs.Prelude.{cond, List, [], ℕ, suc, ◌+◌, ◌-◌, ◌/◌, ◌%◌, ◌≤◌, ◌<◌, ltb, length, get_or}
use Rattle.lists.specs.Tabulate.{tabulate}
use Rattle.sequences.specs.declared.Order.{Order}

-- symbol i counted from the last, or x past the first
abbrev pub from_last : (s : List ℕ) (i x : ℕ) → ℕ
from_last s i x = cond (ltb i (length s)) (get_or s (length s - suc i) 0) x

-- eight blocks, with the sequences in them; what no sequence reaches is as it was
unfoldable pub backwards_over : (ss : List (List ℕ)) (old : List ℕ) → List ℕ
backwards_over ss old = tabulate 1152 (λ k. from_last (get_or ss (k / 144) []) (k % 144) (get_or old k 0))

-- they can be put there: no block is too short, and no symbol is missing
pub record Reversible (o : Order) (k : ℕ) (symbols : List ℕ) : Type 0 where
  pub count : k ≤ 8
  pub short : (h : ℕ) → h < k → get_or o.lengths h 0 ≤ 128
  pub within : (h : ℕ) → h < k → get_or o.starts h 0 + get_or o.lengths h 0 ≤ length symbols
