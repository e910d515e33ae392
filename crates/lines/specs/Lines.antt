-- What the program writes for a whole input: the input is cut into records, and each gets its line.
use Rattle.std.specs.Prelude.{Bool, true, false, cond, List, [], ◌∷◌, ◌++◌, map, ℕ, zero, suc, ◌+◌, leb, length, take, drop}
use Rattle.lists.specs.Tabulate.{joined}
use Rattle.text.specs.Line.{refusal_line}
use Rattle.record.specs.Line.{line_of}
use Rattle.record.specs.Record.{claimed_by}

-- the bytes start with a whole record
unfoldable pub starts_whole : List ℕ → Bool
starts_whole x = leb (2 + claimed_by x) (length x)

-- the whole records that the bytes start with, at most k of them, and the bytes after them
unfoldable pub wholes_up_to : (k : ℕ) → List ℕ → List (List ℕ)
wholes_up_to zero x = []
wholes_up_to (suc k) x =
    let next : List (List ℕ) = wholes_up_to k (drop (2 + claimed_by x) x) in
    cond (starts_whole x) (take (2 + claimed_by x) x ∷ next) []

unfoldable pub rest_up_to : (k : ℕ) → List ℕ → List ℕ
rest_up_to zero x = x
rest_up_to (suc k) x =
    let next : List ℕ = rest_up_to k (drop (2 + claimed_by x) x) in
    cond (starts_whole x) next x

-- A record has a byte or more, so the length of the bytes is a bound.
unfoldable pub wholes_of : List ℕ → List (List ℕ)
wholes_of x = wholes_up_to (length x) x

unfoldable pub rest_of : List ℕ → List ℕ
rest_of x = rest_up_to (length x) x

-- a line for each of the records, in their order
unfoldable pub lines_of_all : List (List ℕ) → List ℕ
lines_of_all records = joined (map line_of records)

-- the lines of the whole records: what can be written while more input may come
unfoldable pub whole_lines : List ℕ → List ℕ
whole_lines x = lines_of_all (wholes_of x)

-- what is written where the input ends with these bytes of a record: nothing for none, else that the record is bad
abbrev pub last_line_of : List ℕ → List ℕ
last_line_of [] = []
last_line_of (b ∷ bs) = refusal_line 9

-- what the program writes for the whole input x
unfoldable pub lines_of : List ℕ → List ℕ
lines_of x = whole_lines x ++ last_line_of (rest_of x)

-- what is written for the bytes at hand, by whether more may come
unfoldable pub text_of : (more : Bool) → List ℕ → List ℕ
text_of true x = whole_lines x
text_of false x = lines_of x

-- how many of the bytes at hand are to be used for the next line: those of a whole record, or all of them where the input has ended inside one; 0 where
-- no line is due
unfoldable pub next_size : (more : Bool) → List ℕ → ℕ
next_size more x = cond (starts_whole x) (2 + claimed_by x) (cond more 0 (length x))
