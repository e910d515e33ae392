-- Frames over the field of 257 as rows of cells in one list, with a number of checks for each row.
use Rattle.std.specs.Prelude.{◌≡◌, cond, List, [], ℕ, suc, ◌+◌, ◌*◌, ◌-◌, ◌/◌, ◌%◌, ◌^◌, ◌<◌, ◌≤◌, ltb, length, get_or}
use Rattle.plain.specs.Plain.{part, sum}

-- row h of a frame, which has at most eight
abbrev pub row : (frame : List ℕ) (columns h : ℕ) → List ℕ
row frame columns h = cond (ltb h 8) (part frame (h * columns) columns) []

-- the check sum S_j of a row, j from 1 on: the powers of 3^(b + j − 1), times its symbols
abbrev pub check_sum : (b : ℕ) (row : List ℕ) (j : ℕ) → ℕ
check_sum b row j = sum (length row) (λ i. get_or row i 0 * 3 ^ ((b + j - 1) * i)) % 257

-- bit i mod 64 of word i / 64
abbrev pub marked : (words : List ℕ) (i : ℕ) → ℕ
marked words i = get_or words (i / 64) 0 / 2 ^ (i % 64) % 2

-- the check sums of the first n rows stand one after the other, S_1 first in each row; what has no room is left out, and places past
-- the last check sum are kept
pub record Summed (b columns : ℕ) (checks frame : List ℕ) (n : ℕ) (old new : List ℕ) : Type 0 where
  pub size : length new ≡ length old
  pub sums : (h j : ℕ) → h < n → j < get_or checks h 0 → sum h (λ i. get_or checks i 0) + j < length old →
      get_or new (sum h (λ i. get_or checks i 0) + j) 0 ≡ check_sum b (row frame columns h) (suc j)
  pub after : (k : ℕ) → sum n (λ i. get_or checks i 0) ≤ k → get_or new k 0 ≡ get_or old k 0

-- the first n entries are different numbers below `bound`
pub record Different (bound n : ℕ) (l : List ℕ) : Type 0 where
  pub below : (k : ℕ) → k < n → get_or l k 0 < bound
  pub apart : (j k : ℕ) → j < n → k < n → get_or l j 0 ≡ get_or l k 0 → j ≡ k

-- a symbol that is not 0
abbrev pub Nonzero : ℕ → Type 0
Nonzero x = (0 < x) × (x < 257)

-- the cell of column i in row h is another than before
abbrev pub Differs : (columns h i : ℕ) (old new : List ℕ) → Type 0
Differs columns h i old new = get_or new (h * columns + i) 0 ≡ get_or old (h * columns + i) 0 → ⊥

-- the cell of column i in row h is in the frame, and the row has a factor that is not 0
pub record Reached (columns rows : ℕ) (factors frame : List ℕ) (h i : ℕ) : Type 0 where
  pub row : h < rows
  pub column : i < columns
  pub cell : h * columns + i < length frame
  pub factor : Nonzero (get_or factors h 0)

-- only cells of column i in the first rows may differ, symbols stay symbols, and the cells that are reached differ
pub record Struck (columns rows i : ℕ) (factors old new : List ℕ) : Type 0 where
  pub size : length new ≡ length old
  pub kept : (k : ℕ) → ((h : ℕ) → h < rows → k ≡ h * columns + i → ⊥) → get_or new k 0 ≡ get_or old k 0
  pub symbols : (k : ℕ) → get_or old k 0 < 257 → get_or new k 0 < 257
  pub altered : (h : ℕ) → Reached columns rows factors old h i → Differs columns h i old new

-- only cells of the first n columns that are listed may differ, and symbols stay symbols
pub record Damaged (columns rows : ℕ) (order : List ℕ) (n : ℕ) (old new : List ℕ) : Type 0 where
  pub size : length new ≡ length old
  pub kept : (k : ℕ) → ((m h : ℕ) → m < n → h < rows → k ≡ h * columns + get_or order m 0 → ⊥) → get_or new k 0 ≡ get_or old k 0
  pub symbols : (k : ℕ) → get_or old k 0 < 257 → get_or new k 0 < 257

-- the same, and where these columns are different, their cells that are reached differ
pub record DamagedBy (factors : List ℕ) (columns rows : ℕ) (order : List ℕ) (n : ℕ) (old new : List ℕ) : Type 0 where
  pub damaged : Damaged columns rows order n old new
  pub altered : Different columns n order → (m h : ℕ) → m < n → Reached columns rows factors old h (get_or order m 0) →
      Differs columns h (get_or order m 0) old new

-- one to eight rows, which are all in the array, of at most 256 columns, of which w are to be damaged
pub record Damageable (columns rows w : ℕ) (frame : List ℕ) : Type 0 where
  pub some : 0 < rows
  pub few : rows ≤ 8
  pub narrow : columns ≤ 256
  pub chosen : w ≤ columns
  pub cells : rows * columns ≤ length frame

-- exactly w columns are listed, which are different columns of the frame, and each differs in some row
pub record Altered (columns rows w : ℕ) (order old new : List ℕ) : Type 0 where
  pub count : length order ≡ w
  pub different : Different columns w order
  pub altered : (m : ℕ) → m < w → (h : ℕ) × (h < rows) × Differs columns h (get_or order m 0) old new

-- at most w columns are listed, and only they may differ; in a frame that can be damaged in w columns, exactly w differ
pub record Chosen (columns rows w : ℕ) (order old new : List ℕ) : Type 0 where
  pub few : length order ≤ w
  pub damaged : Damaged columns rows order (length order) old new
  pub altered : Damageable columns rows w old → Altered columns rows w order old new
