-- Mending: what is read off the check sums of a row is added to a cell of the row; a column of a frame is mended in each row.
use Rattle.std.specs.Prelude.{cond, List, ℕ, ◌+◌, ◌%◌, eqb, get_or, take, drop}
use Rattle.frame.specs.Encode.{each_row}
use Rattle.frame.specs.Frame.{sums_before}
use Rattle.frame.specs.Shape.{checks_of}
use Rattle.frame.specs.declared.Shape.{Shape}
use Rattle.lists.specs.Tabulate.{tabulate}
use Rattle.weights.specs.Weights.{symbol_read}

-- a row of n columns with its cell in column i mended
unfoldable pub mended_cell : (n : ℕ) (coefficients sums : List ℕ) (i : ℕ) (x : List ℕ) → List ℕ
mended_cell n coefficients sums i x =
    tabulate n (λ k. cond (eqb k i) ((get_or x k 0 + symbol_read coefficients sums) % 257) (get_or x k 0))

-- a frame with column i mended, each row by its own sums among those that are held
unfoldable pub mended_column : Shape → (coefficients sums : List ℕ) (i : ℕ) (f : List ℕ) → List ℕ
mended_column s coefficients sums i f =
    each_row s.columns (λ h. mended_cell s.columns coefficients (take (checks_of s h) (drop (sums_before s h) sums)) i) s.rows f
