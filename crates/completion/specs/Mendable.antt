-- What mending asks: that what is given fits together, and that the check sums are those of the row or of the frame.
use Rattle.std.specs.Prelude.{◌≡◌, true, List, ℕ, ◌+◌, ◌*◌, ◌≤◌, ◌<◌, length, get_or}
use Rattle.columns.specs.Columns.{has, members}
use Rattle.columns.specs.declared.Columns.{Columns}
use Rattle.frame.specs.Frame.{check_sums, held_sums, sums_before}
use Rattle.frame.specs.Shape.{checks_of, is_shape}
use Rattle.frame.specs.declared.Shape.{Shape}

-- a symbol is read off and added to cell i of a row
pub record MendableCell (row : List ℕ) (i : ℕ) (coefficients sums : List ℕ) : Type 0 where
  pub inside : i < length row
  pub few : length coefficients ≤ 64
  pub reach : length coefficients ≤ length sums
  pub sums-small : (k : ℕ) → get_or sums k 0 < 257

-- a row, whose check sums begin at the exponent b, is completed at a set, which has no more columns than the row has check sums
pub record MendableRow (b : ℕ) (set : Columns) (sums row : List ℕ) : Type 0 where
  pub exponent : b ≤ 255
  pub narrow : length row ≤ 256
  pub small : (k : ℕ) → k < length row → get_or row k 0 < 257
  pub few : length sums ≤ 64
  pub held : sums ≡ check_sums b (length row) (length sums) row
  pub below : (i : ℕ) → has set i ≡ true → i < length row
  pub reach : length (members set) ≤ length sums

-- the rows of a frame are lent together with their check sums, which stand row after row
pub record RowsLent (s : Shape) (sums frame : List ℕ) : Type 0 where
  pub rows-most : s.rows ≤ 8
  pub narrow : s.columns ≤ 256
  pub checks-most : (h : ℕ) → h < s.rows → checks_of s h ≤ 64
  pub whole : length frame ≡ s.rows * s.columns
  pub sums-room : (h : ℕ) → h < s.rows → sums_before s h + checks_of s h ≤ length sums
  pub sums-small : (k : ℕ) → get_or sums k 0 < 257

-- column i of a frame is mended in each row
pub record MendableColumn (s : Shape) (frame : List ℕ) (i : ℕ) (coefficients sums : List ℕ) : Type 0 where
  pub lent : RowsLent s sums frame
  pub inside : i < s.columns
  pub reach : (h : ℕ) → h < s.rows → length coefficients ≤ checks_of s h

-- each row of a frame is completed at a set, which has no more columns than any row has check sums
pub record MendableFrame (s : Shape) (set : Columns) (sums frame : List ℕ) : Type 0 where
  pub shape : is_shape s ≡ true
  pub whole : length frame ≡ s.rows * s.columns
  pub small : (k : ℕ) → k < length frame → get_or frame k 0 < 257
  pub held : sums ≡ held_sums s frame
  pub below : (i : ℕ) → has set i ≡ true → i < s.columns
  pub reach : (h : ℕ) → h < s.rows → length (members set) ≤ checks_of s h
