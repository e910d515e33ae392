-- A set of 256 marks in four 64-bit words, column 0 lowest (SPECIFICATION.md, "Jobs"):
-- which columns a value marks, the value that marks given columns, and its columns as a list.
use Rattle.std.specs.Prelude.{◌≡◌, Bool, true, false, cond, ◌||◌, List, [], ◌∷◌, map, ℕ, zero, suc, ◌+◌, ◌*◌, ◌/◌, ◌%◌, ◌^◌, ◌<◌, eqb, length, get_or}
use Rattle.columns.specs.Listed.{listed}
use Rattle.columns.specs.declared.Columns.{Columns}

-- bit k of x is set
abbrev pub bit : ℕ → ℕ → Bool
bit x k = eqb (x / 2 ^ k % 2) 1

-- the number of n bits whose bit k is set where P k: the lowest bit, and twice the number that the bits above it make
unfoldable pub number : ℕ → (ℕ → Bool) → ℕ
number zero P = 0
number (suc n) P = cond (P 0) 1 0 + 2 * number n (λ k. P (suc k))

-- column i is marked: it is bit i mod 64 of word i / 64. No column from 256 on is marked, since there is no word for it
unfoldable pub has : Columns → ℕ → Bool
has c i = bit (get_or c.words (i / 64) 0) (i % 64)

-- the value with these words
abbrev pub marking : List ℕ → Columns
marking l = record { words = l }

-- the value that marks exactly the columns i below 256 with P i: word w holds columns 64·w to 64·w + 63
unfoldable pub columns_of : (ℕ → Bool) → Columns
columns_of P = record { words = map (λ w. number 64 (λ k. P (64 * w + k))) (0 ∷ 1 ∷ 2 ∷ 3 ∷ []) }

-- the marked columns, rising
abbrev pub members : Columns → List ℕ
members c = listed 256 (has c)

-- the columns of either set
unfoldable pub either : Columns → Columns → Columns
either J K = columns_of (λ i. has J i || has K i)

-- no column is in both sets
abbrev pub Apart : Columns → Columns → Type 0
Apart J K = (i : ℕ) → i < 256 → has J i ≡ true → has K i ≡ false

-- what every value of the type is: four words of 64 bits
pub record Sound (c : Columns) : Type 0 where
  pub four : length c.words ≡ 4
  pub small : (w : ℕ) → get_or c.words w 0 < 2 ^ 64
