-- What the bytes of a record say (SPECIFICATION.md, "Records and lines"): a little-endian 16-bit length that counts the bytes after it, a kind, and a body of
-- 16-bit fields.
use Rattle.std.specs.Prelude.{Bool, cond, ◌&&◌, List, ◌++◌, ℕ, ◌+◌, ◌%◌, leb, eqb, length, get_or, take, drop}
use Rattle.reader.specs.Fields.{field_of, fields_of}

pub data Record : Type 0 where
  bad : Record
  sequences : (p : ℕ) (lengths symbols : List ℕ) → Record
  frame : (columns : ℕ) (checks symbols : List ℕ) → Record

-- how many bytes a record claims after its length; none where the two bytes of the length are not there
unfoldable pub claimed_by : List ℕ → ℕ
claimed_by bytes = cond (leb 2 (length bytes)) (field_of bytes 0) 0

-- The length claimed is two or more and even, and the bytes got are all that it claims: the input may end inside a record, before its length or after.
unfoldable pub is_whole : List ℕ → Bool
is_whole bytes = leb 2 (claimed_by bytes) && (eqb (claimed_by bytes % 2) 0 && eqb (length bytes) (2 + claimed_by bytes))

-- a record by its kind, of the two that there are
abbrev pub of_kind : (kind n : ℕ) → List ℕ → List ℕ → Record
of_kind kind n = cond (eqb kind 1) (sequences n) (frame n)

-- after three fields, as many as are counted, and the symbols; the fields before the symbols are there
unfoldable pub counted_of : (made : List ℕ → List ℕ → Record) (count : ℕ) → List ℕ → Record
counted_of made count xs = cond (leb (3 + count) (length xs)) (made (take count (drop 3 xs)) (drop (3 + count) xs)) bad

-- The fields from the kind on. Kind 1: p, count, lengths, symbols. Kind 2: rows, columns, check counts, symbols.
unfoldable pub body_of : List ℕ → Record
body_of xs =
    let kind : ℕ = get_or xs 0 0 in
    cond (eqb kind 1) (counted_of (sequences (get_or xs 1 0)) (get_or xs 2 0) xs)
    (cond (eqb kind 2) (counted_of (frame (get_or xs 2 0)) (get_or xs 1 0) xs) bad)

unfoldable pub record_of : List ℕ → Record
record_of bytes = cond (is_whole bytes) (body_of (fields_of (drop 2 bytes))) bad

-- the entries that the fields are read into: the fields of a whole record, from its kind on, and then what stood there before
unfoldable pub fields_left : (bytes before : List ℕ) → List ℕ
fields_left bytes before =
    let xs : List ℕ = fields_of (drop 2 bytes) in
    cond (is_whole bytes) (xs ++ drop (length xs) before) before
