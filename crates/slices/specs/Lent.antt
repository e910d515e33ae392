-- What is lent for a search in slices, and its lengths as an array.
use Rattle.std.specs.Prelude.{cond, List, ℕ, ◌≤◌, ◌<◌, ltb, length, get_or}
use Rattle.lists.specs.Tabulate.{tabulate}
use Rattle.sequences.specs.Places.{Sortable}
use Rattle.sequences.specs.declared.Order.{Order}

-- sequences that can be put in order, none longer than 64
pub record Lent (lengths symbols : List ℕ) : Type 0 where
  pub sortable : Sortable lengths symbols
  pub short : (h : ℕ) → h < length lengths → get_or lengths h 0 ≤ 64

-- the lengths of the first k sequences, and zeros
abbrev pub lengths_of : Order → (k : ℕ) → List ℕ
lengths_of o k = tabulate 8 (λ h. cond (ltb h k) (get_or o.lengths h 0) 0)
