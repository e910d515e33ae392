-- Frames, their check sums, which of them are legal, and how far apart two are (SPECIFICATION.md, "Frames").
-- A frame is the list of its symbols, row after row.
use Rattle.std.specs.Prelude.{◌≡◌, Bool, not, ◌&&◌, List, [], ◌∷◌, ◌++◌, ℕ, suc, ◌+◌, ◌-◌, ◌*◌, ◌%◌, ◌^◌, ◌≤◌, ◌<◌, ltb, eqb, length, get_or, take, drop, replicate}
use Rattle.columns.specs.Columns.{columns_of}
use Rattle.columns.specs.Listed.{count}
use Rattle.columns.specs.declared.Columns.{Columns}
use Rattle.lists.specs.Total.{total}
use Rattle.lists.specs.Tabulate.{tabulate, every, joined}
use Rattle.refusal.specs.Order.{Test}
use Rattle.frame.specs.Shape.{checks_of}
use Rattle.frame.specs.declared.Shape.{Shape}

-- row h of a frame of n columns
abbrev pub row : (n : ℕ) (f : List ℕ) (h : ℕ) → List ℕ
row n f h = take n (drop (h * n) f)

-- the symbol of row h at column i
abbrev pub cell : (n : ℕ) (f : List ℕ) (h i : ℕ) → ℕ
cell n f h i = get_or f (h * n + i) 0

-- What the symbol at column i counts in check sum j, counted from 1: the column's locator to the power b + j − 1, where the check sums begin at the
-- exponent b.
unfoldable pub weight : (b i j : ℕ) → ℕ
weight b i j = 3 ^ (i * (b + j - 1))

-- the check sum S_j of a row x of n columns
unfoldable pub check_sum : (b n : ℕ) (x : List ℕ) (j : ℕ) → ℕ
check_sum b n x j = total n (λ i. get_or x i 0 * weight b i j) % 257

-- the check sums S_1 .. S_m of a row
unfoldable pub check_sums : (b n m : ℕ) (x : List ℕ) → List ℕ
check_sums b n m x = tabulate m (λ j. check_sum b n x (suc j))

-- the check sums of row h of a frame, as many as the row has checks
unfoldable pub row_sums : Shape → (f : List ℕ) (h : ℕ) → List ℕ
row_sums s f h = check_sums s.exponent s.columns (checks_of s h) (row s.columns f h)

-- the sequences of a frame: the check sums of each row
unfoldable pub sequences : Shape → (f : List ℕ) → List (List ℕ)
sequences s f = tabulate s.rows (row_sums s f)

-- the check sums of a frame as they are held: those of row after row, then zeros up to 512 entries, which eight rows of 64 checks fill
unfoldable pub held_sums : Shape → (f : List ℕ) → List ℕ
held_sums s f = let sums : List ℕ = joined (sequences s f) in sums ++ replicate (512 - length sums) 0

-- where the check sums of row h begin among those that are held
abbrev pub sums_before : Shape → (h : ℕ) → ℕ
sums_before s h = total h (checks_of s)

-- the sequences that held sums hold, one for each row
unfoldable pub held_sequences : Shape → (sums : List ℕ) → List (List ℕ)
held_sequences s sums = tabulate s.rows (λ h. take (checks_of s h) (drop (sums_before s h) sums))

-- the specification's term: rows × columns symbols, all below 257
pub record WellFormed (s : Shape) (f : List ℕ) : Type 0 where
  pub size : length f ≡ s.rows * s.columns
  pub symbols : (k : ℕ) → k < length f → get_or f k 0 < 257

-- some symbol is not below 257
abbrev pub symbols_test : (f : List ℕ) → Test
symbols_test f = record { number = 4; fails = not (every (length f) (λ k. ltb (get_or f k 0) 257)) }

-- the refusals of a frame that is not well-formed, in their order
unfoldable pub frame_tests : Shape → (f : List ℕ) → List Test
frame_tests s f = record { number = 7; fails = not (eqb (length f) (s.rows * s.columns)) } ∷ symbols_test f ∷ []

-- every check sum of every row is 0
abbrev pub Codeword : Shape → (f : List ℕ) → Type 0
Codeword s f =
    (h j : ℕ) → h < s.rows → 1 ≤ j → j ≤ checks_of s h → check_sum s.exponent s.columns (row s.columns f h) j ≡ 0

-- well-formed, with every check sum 0
pub record Coded (s : Shape) (f : List ℕ) : Type 0 where
  pub well_formed : WellFormed s f
  pub codeword : Codeword s f

-- two of the symbols differ
abbrev pub Varied : (f : List ℕ) → Type 0
Varied f = (j : ℕ) × (k : ℕ) × (j < length f) × (k < length f) × (get_or f j 0 ≡ get_or f k 0 → ⊥)

-- no two do: all are the first one
unfoldable pub uniform : (f : List ℕ) → Bool
uniform f = every (length f) (λ k. eqb (get_or f k 0) (get_or f 0 0))

-- the specification's term: a frame that the encoder may send. A broken cable delivers one symbol throughout, so that no such frame is sent.
pub record Legal (s : Shape) (f : List ℕ) : Type 0 where
  pub coded : Coded s f
  pub varied : Varied f

-- whether any row of two frames differs in column i
unfoldable pub differs : Shape → (f g : List ℕ) (i : ℕ) → Bool
differs s f g i = not (every s.rows (λ h. eqb (cell s.columns f h i) (cell s.columns g h i)))

-- the distance: the number of columns in which the frames differ
unfoldable pub distance : Shape → (f g : List ℕ) → ℕ
distance s f g = count s.columns (differs s f g)

-- the set of those columns
unfoldable pub differing : Shape → (f g : List ℕ) → Columns
differing s f g = columns_of (λ i. ltb i s.columns && differs s f g i)
