-- Bytes of an input and the text that the program writes for them, as one table. `written` makes the text anew by `lines_of`; the theorem, in
-- proofs/Examples.antt, is that the table stays as it is.
use Rattle.std.specs.Prelude.{List, [], ◌∷◌, ℕ, drop, replicate}
use Rattle.lists.specs.Tabulate.{tabulate, joined}
use Rattle.lines.specs.Lines.{lines_of}

pub record Example : Type 0 where
  pub bytes : List ℕ
  pub text : List ℕ

abbrev pub written : Example → Example
written e = record { bytes = e.bytes; text = lines_of e.bytes }

-- Text in ASCII: `E` is 69, `F` 70, `R` 82, a space 32, a newline 10, and the digit d is 48 + d.
unfoldable pub table : List Example
table =
    -- no input
    record { bytes = []; text = [] } ∷
    -- p = 5, the sequences 1 2 4 3 and 1 1
    record {
      bytes = 22 ∷ 0 ∷ 1 ∷ 0 ∷ 5 ∷ 0 ∷ 2 ∷ 0 ∷ 4 ∷ 0 ∷ 2 ∷ 0 ∷ 1 ∷ 0 ∷ 2 ∷ 0 ∷ 4 ∷ 0 ∷ 3 ∷ 0 ∷ 1 ∷ 0 ∷ 1 ∷ 0 ∷ [];
      text = 82 ∷ 32 ∷ 50 ∷ 32 ∷ 48 ∷ 32 ∷ 49 ∷ 32 ∷ 51 ∷ 32 ∷ 48 ∷ 10 ∷ [];
    } ∷
    -- a length of 0, and of 1
    record { bytes = 0 ∷ 0 ∷ []; text = 69 ∷ 32 ∷ 57 ∷ 10 ∷ [] } ∷
    record { bytes = 1 ∷ 0 ∷ 1 ∷ []; text = 69 ∷ 32 ∷ 57 ∷ 10 ∷ [] } ∷
    -- an odd length, of a record that is p = 5 and the sequence 3 but for its last byte
    record { bytes = 11 ∷ 0 ∷ 1 ∷ 0 ∷ 5 ∷ 0 ∷ 1 ∷ 0 ∷ 1 ∷ 0 ∷ 3 ∷ 0 ∷ 0 ∷ []; text = 69 ∷ 32 ∷ 57 ∷ 10 ∷ [] } ∷
    record { bytes = 10 ∷ 0 ∷ 1 ∷ 0 ∷ 5 ∷ 0 ∷ 1 ∷ 0 ∷ 1 ∷ 0 ∷ 3 ∷ 0 ∷ []; text = 82 ∷ 32 ∷ 49 ∷ 32 ∷ 48 ∷ 32 ∷ 49 ∷ 32 ∷ 48 ∷ 10 ∷ [] } ∷
    -- kinds 0 and 3, of fields that are good in kind 1 and in kind 2
    record { bytes = 10 ∷ 0 ∷ 0 ∷ 0 ∷ 5 ∷ 0 ∷ 1 ∷ 0 ∷ 1 ∷ 0 ∷ 3 ∷ 0 ∷ []; text = 69 ∷ 32 ∷ 57 ∷ 10 ∷ [] } ∷
    record {
      bytes = 26 ∷ 0 ∷ 3 ∷ 0 ∷ 2 ∷ 0 ∷ 4 ∷ 0 ∷ 3 ∷ 0 ∷ 2 ∷ 0 ∷ 0 ∷ 0 ∷ 0 ∷ 0 ∷ 5 ∷ 0 ∷ 0 ∷ 0 ∷ 0 ∷ 0 ∷ 0 ∷ 0 ∷ 7 ∷ 0 ∷ 0 ∷ 0 ∷ [];
      text = 69 ∷ 32 ∷ 57 ∷ 10 ∷ [];
    } ∷
    -- a body too short for its fields: no count; a count of lengths that are not there; fewer check counts than rows
    record { bytes = 4 ∷ 0 ∷ 1 ∷ 0 ∷ 5 ∷ 0 ∷ []; text = 69 ∷ 32 ∷ 57 ∷ 10 ∷ [] } ∷
    record { bytes = 6 ∷ 0 ∷ 1 ∷ 0 ∷ 5 ∷ 0 ∷ 1 ∷ 0 ∷ []; text = 69 ∷ 32 ∷ 57 ∷ 10 ∷ [] } ∷
    record { bytes = 8 ∷ 0 ∷ 2 ∷ 0 ∷ 2 ∷ 0 ∷ 4 ∷ 0 ∷ 3 ∷ 0 ∷ []; text = 69 ∷ 32 ∷ 57 ∷ 10 ∷ [] } ∷
    -- input that ends inside a record: in its length, after it, and before its last byte
    record { bytes = 22 ∷ []; text = 69 ∷ 32 ∷ 57 ∷ 10 ∷ [] } ∷
    record { bytes = 22 ∷ 0 ∷ []; text = 69 ∷ 32 ∷ 57 ∷ 10 ∷ [] } ∷
    record { bytes = 22 ∷ 0 ∷ 1 ∷ 0 ∷ 5 ∷ 0 ∷ 2 ∷ 0 ∷ 4 ∷ 0 ∷ 2 ∷ 0 ∷ 1 ∷ 0 ∷ 2 ∷ 0 ∷ 4 ∷ 0 ∷ 3 ∷ 0 ∷ 1 ∷ 0 ∷ 1 ∷ []; text = 69 ∷ 32 ∷ 57 ∷ 10 ∷ [] } ∷
    -- the program goes on after a bad record, and the last one is cut short
    record {
      bytes =
          0 ∷ 0 ∷ 5 ∷ 0 ∷ 1 ∷ 0 ∷ 5 ∷ 0 ∷ 1 ∷ 22 ∷ 0 ∷ 1 ∷ 0 ∷ 5 ∷ 0 ∷ 2 ∷ 0 ∷ 4 ∷ 0 ∷ 2 ∷ 0 ∷ 1 ∷ 0 ∷ 2 ∷ 0 ∷ 4 ∷ 0 ∷
          3 ∷ 0 ∷ 1 ∷ 0 ∷ 1 ∷ 0 ∷ 2 ∷ 0 ∷ 3 ∷ 0 ∷ 22 ∷ 0 ∷ 1 ∷ 0 ∷ 5 ∷ 0 ∷ 2 ∷ 0 ∷ 4 ∷ 0 ∷ [];
      text = 69 ∷ 32 ∷ 57 ∷ 10 ∷ 69 ∷ 32 ∷ 57 ∷ 10 ∷ 82 ∷ 32 ∷ 50 ∷ 32 ∷ 48 ∷ 32 ∷ 49 ∷ 32 ∷ 51 ∷ 32 ∷ 48 ∷ 10 ∷ 69 ∷ 32 ∷ 57 ∷ 10 ∷ 69 ∷ 32 ∷ 57 ∷ 10 ∷ [];
    } ∷
    -- 4 columns, checks 3 and 2, zeros but column 2, holding 5 and 7: the only codeword at distance 1 is uniform
    record {
      bytes =
          26 ∷ 0 ∷ 2 ∷ 0 ∷ 2 ∷ 0 ∷ 4 ∷ 0 ∷ 3 ∷ 0 ∷ 2 ∷ 0 ∷ 0 ∷ 0 ∷ 0 ∷ 0 ∷ 5 ∷ 0 ∷ 0 ∷ 0 ∷ 0 ∷ 0 ∷ 0 ∷ 0 ∷ 7 ∷ 0 ∷ 0 ∷
          0 ∷ [];
      text = 69 ∷ 32 ∷ 50 ∷ 54 ∷ 10 ∷ [];
    } ∷
    -- the same damage to a legal frame
    record {
      bytes =
          26 ∷ 0 ∷ 2 ∷ 0 ∷ 2 ∷ 0 ∷ 4 ∷ 0 ∷ 3 ∷ 0 ∷ 2 ∷ 0 ∷ 42 ∷ 0 ∷ 94 ∷ 0 ∷ 223 ∷ 0 ∷ 1 ∷ 0 ∷ 255 ∷ 0 ∷ 139 ∷ 0 ∷ 9 ∷ 0 ∷ 3 ∷ 0 ∷ [];
      text = 70 ∷ 32 ∷ 49 ∷ 32 ∷ 50 ∷ 10 ∷ [];
    } ∷
    -- 4 columns, checks 2 and 2, zeros but row 1, columns 0 and 1, holding 1
    record {
      bytes =
          26 ∷ 0 ∷ 2 ∷ 0 ∷ 2 ∷ 0 ∷ 4 ∷ 0 ∷ 2 ∷ 0 ∷ 2 ∷ 0 ∷ 1 ∷ 0 ∷ 1 ∷ 0 ∷ 0 ∷ 0 ∷ 0 ∷ 0 ∷ 0 ∷ 0 ∷ 0 ∷ 0 ∷ 0 ∷ 0 ∷ 0 ∷
          0 ∷ [];
      text = 69 ∷ 32 ∷ 50 ∷ 54 ∷ 10 ∷ [];
    } ∷
    -- p = 65521, the sequence 1 16787: fields of two bytes, and a number of five digits, among them those that no other line has
    record {
      bytes = 12 ∷ 0 ∷ 1 ∷ 0 ∷ 241 ∷ 255 ∷ 1 ∷ 0 ∷ 2 ∷ 0 ∷ 1 ∷ 0 ∷ 147 ∷ 65 ∷ [];
      text = 82 ∷ 32 ∷ 49 ∷ 32 ∷ 49 ∷ 32 ∷ 49 ∷ 32 ∷ 52 ∷ 56 ∷ 55 ∷ 51 ∷ 52 ∷ 10 ∷ [];
    } ∷
    -- p = 2, the sequence of nine zeros and a 1: a line of 13 numbers
    record {
      bytes = 28 ∷ 0 ∷ 1 ∷ 0 ∷ 2 ∷ 0 ∷ 1 ∷ 0 ∷ 10 ∷ 0 ∷ 0 ∷ 0 ∷ 0 ∷ 0 ∷ 0 ∷ 0 ∷ 0 ∷ 0 ∷ 0 ∷ 0 ∷ 0 ∷ 0 ∷ 0 ∷ 0 ∷ 0 ∷ 0 ∷ 0 ∷ 0 ∷ 1 ∷ 0 ∷ [];
      text =
          82 ∷ 32 ∷ 49 ∷ 48 ∷ 32 ∷ 48 ∷ 32 ∷ 49 ∷ 32 ∷ 48 ∷ 32 ∷ 48 ∷ 32 ∷ 48 ∷ 32 ∷ 48 ∷ 32 ∷ 48 ∷ 32 ∷ 48 ∷ 32 ∷ 48 ∷ 32 ∷ 48 ∷ 32 ∷ 48 ∷ 32 ∷
          48 ∷ 10 ∷ [];
    } ∷
    -- p = 7, the sequences 1 2 4 and 3 and 5 3 6
    record {
      bytes =
          26 ∷ 0 ∷ 1 ∷ 0 ∷ 7 ∷ 0 ∷ 3 ∷ 0 ∷ 3 ∷ 0 ∷ 1 ∷ 0 ∷ 3 ∷ 0 ∷ 1 ∷ 0 ∷ 2 ∷ 0 ∷ 4 ∷ 0 ∷ 3 ∷ 0 ∷ 5 ∷ 0 ∷ 3 ∷ 0 ∷ 6 ∷ 0 ∷ [];
      text = 82 ∷ 32 ∷ 49 ∷ 32 ∷ 49 ∷ 32 ∷ 49 ∷ 32 ∷ 53 ∷ 10 ∷ [];
    } ∷
    -- p = 2, a sequence of 128 zeros, the longest length that is taken
    record {
      bytes = joined ((8 ∷ 1 ∷ 1 ∷ 0 ∷ 2 ∷ 0 ∷ 1 ∷ 0 ∷ 128 ∷ 0 ∷ []) ∷ replicate 256 0 ∷ []);
      text = 82 ∷ 32 ∷ 48 ∷ 32 ∷ 49 ∷ 32 ∷ 49 ∷ 10 ∷ [];
    } ∷
    -- 4 columns, checks 1, 2 and 3, a legal frame with the data 1 to 6
    record {
      bytes =
          36 ∷ 0 ∷ 2 ∷ 0 ∷ 3 ∷ 0 ∷ 4 ∷ 0 ∷ 1 ∷ 0 ∷ 2 ∷ 0 ∷ 3 ∷ 0 ∷ 155 ∷ 0 ∷ 1 ∷ 0 ∷ 2 ∷ 0 ∷ 3 ∷ 0 ∷ 186 ∷ 0 ∷ 138 ∷ 0 ∷ 4 ∷ 0 ∷ 5 ∷ 0 ∷
          252 ∷ 0 ∷ 50 ∷ 0 ∷ 23 ∷ 0 ∷ 6 ∷ 0 ∷ [];
      text = 70 ∷ 32 ∷ 48 ∷ 10 ∷ [];
    } ∷
    -- 256 columns, 2 checks, a legal frame: 81 and 17, and in each later column the number of the column
    record {
      bytes = joined ((8 ∷ 2 ∷ 2 ∷ 0 ∷ 1 ∷ 0 ∷ 0 ∷ 1 ∷ 2 ∷ 0 ∷ 81 ∷ 0 ∷ 17 ∷ 0 ∷ []) ∷ drop 2 (tabulate 256 (λ i. i ∷ 0 ∷ [])));
      text = 70 ∷ 32 ∷ 48 ∷ 10 ∷ [];
    } ∷
    -- p = 4
    record { bytes = 10 ∷ 0 ∷ 1 ∷ 0 ∷ 4 ∷ 0 ∷ 1 ∷ 0 ∷ 1 ∷ 0 ∷ 0 ∷ 0 ∷ []; text = 69 ∷ 32 ∷ 49 ∷ 10 ∷ [] } ∷
    -- no columns: refusals of the shape come before those of the frame
    record { bytes = 10 ∷ 0 ∷ 2 ∷ 0 ∷ 1 ∷ 0 ∷ 0 ∷ 0 ∷ 1 ∷ 0 ∷ 44 ∷ 1 ∷ []; text = 69 ∷ 32 ∷ 53 ∷ 10 ∷ [] } ∷
    []
