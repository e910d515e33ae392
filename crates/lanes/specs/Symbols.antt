-- The symbols at the columns of a set, read off the check sums of a row, which begin at the exponent b.
use Rattle.std.specs.Prelude.{◌≡◌, List, map, ℕ, ◌*◌, ◌%◌, ◌≤◌, ◌<◌, length, get_or}
use Rattle.columns.specs.Columns.{members}
use Rattle.columns.specs.declared.Columns.{Columns}
use Rattle.field.specs.Residue.{inverse, minus, times}
use Rattle.field257.specs.Powers.{power_of3}
use Rattle.field257.specs.Table.{table}
use Rattle.lanes.specs.declared.run.Lanes.{Lanes}
use Rattle.lists.specs.Tabulate.{tabulate}
use Rattle.weights.specs.Weights.{coefficient, symbol_read}

-- what each column of the set reads off with its coefficients
unfoldable pub symbols_of : (b : ℕ) (J : Columns) (sums : List ℕ) → List ℕ
symbols_of b J sums = map (λ i. symbol_read (tabulate (length (members J)) (coefficient b J i)) sums) (members J)

-- an exponent of a shape; the set has at most 64 columns, and there is a check sum for each
pub record ReadableSet (b : ℕ) (J : Columns) (sums : List ℕ) : Type 0 where
  pub exponent : b ≤ 255
  pub few : length (members J) ≤ 64
  pub reach : length (members J) ≤ length sums
  pub sums-small : (k : ℕ) → get_or sums k 0 < 257

-- the locators of the first m columns of a list to the power e
abbrev pub locators_to : (m : ℕ) (list : List ℕ) (e : ℕ) → List ℕ
locators_to m list e = tabulate m (λ k. power_of3 (get_or list k 0 * e))

-- the table of powers, no more columns than a set has, and an exponent of a shape
pub record Listable (powers : List ℕ) (m e : ℕ) : Type 0 where
  pub powers_known : powers ≡ table
  pub few : m ≤ 64
  pub exponent : e ≤ 255

-- The symbol at a column from the value v and the total t of its lane, w being its weight in the first check sum: t over w·v, with the sign turned.
abbrev pub symbol_of : (w v t : ℕ) → ℕ
symbol_of w v t = times 257 (t % 257) (minus 257 0 (inverse 257 ((w * v) % 257)))

-- the same of m lanes with the weights w
unfoldable pub symbols_in : (m : ℕ) (w : List ℕ) (r : Lanes) → List ℕ
symbols_in m w r = tabulate m (λ k. symbol_of (get_or w k 0) (get_or r.values k 0) (get_or r.totals k 0))
