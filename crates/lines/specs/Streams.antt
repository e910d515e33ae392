-- What is owed of whole inputs: there is one way to cut an input into records, one line stands for each, and pieces of any size give the same text.
-- Proved in proofs/Streams.antt.
use Rattle.std.specs.Prelude.{◌≡◌, ◌⊎◌, List, [], ◌∷◌, ◌++◌, ℕ, ◌+◌, ◌≤◌, ◌<◌, length}
use Rattle.lists.specs.Tabulate.{joined}
use Rattle.reader.specs.Fields.{field_of}
use Rattle.text.specs.Line.{refusal_line}
use Rattle.record.specs.Line.{line_of}
use Rattle.lines.specs.Lines.{wholes_of, rest_of, lines_of_all, whole_lines, lines_of}

-- a whole record: two bytes of length, and as many bytes after them as these say
abbrev pub IsWhole : List ℕ → Type 0
IsWhole w = (2 ≤ length w) × (length w ≡ 2 + field_of w 0)

-- the input ends inside the record that starts with these bytes: in its length, or before all that this counts
abbrev pub EndsInside : List ℕ → Type 0
EndsInside r = (length r < 2) ⊎ (length r < 2 + field_of r 0)

abbrev pub AllWhole : List (List ℕ) → Type 0
AllWhole [] = Unit {0}
AllWhole (w ∷ ws) = IsWhole w × AllWhole ws

-- the input is the whole records ws, one after the other, and then the bytes r, in which no whole record starts
pub record Cut (x : List ℕ) (ws : List (List ℕ)) (r : List ℕ) : Type 0 where
  pub parts : joined ws ++ r ≡ x
  pub wholes : AllWhole ws
  pub rest : EndsInside r

-- what is written for pieces one after the other, each as it comes after the bytes left of those before it; then the input ends
unfoldable pub written_after : (left : List ℕ) (pieces : List (List ℕ)) → List ℕ
written_after left [] = lines_of left
written_after left (p ∷ ps) = whole_lines (left ++ p) ++ written_after (rest_of (left ++ p)) ps

pub record Streams : Type 0 where
  -- the cut, and no other
  pub cut : (x : List ℕ) → Cut x (wholes_of x) (rest_of x)
  pub only : (x : List ℕ) (ws : List (List ℕ)) (r : List ℕ) → Cut x ws r → (ws ≡ wholes_of x) × (r ≡ rest_of x)
  -- no record, no line; a line for the first record, and then those of the others
  pub none : lines_of_all [] ≡ []
  pub more : (w : List ℕ) (ws : List (List ℕ)) → lines_of_all (w ∷ ws) ≡ line_of w ++ lines_of_all ws
  -- at the end of the input nothing is left, or bytes of a record that is bad
  pub done : (x : List ℕ) → rest_of x ≡ [] → lines_of x ≡ whole_lines x
  pub cut_short : (x : List ℕ) → (rest_of x ≡ [] → ⊥) → (lines_of x ≡ whole_lines x ++ refusal_line 9) × (line_of (rest_of x) ≡ refusal_line 9)
  -- pieces: what is written for x, and then for what is left of it and y, is what is written for x and y at once
  pub pieces : (x y : List ℕ) → whole_lines (x ++ y) ≡ whole_lines x ++ whole_lines (rest_of x ++ y)
  pub rest_of_pieces : (x y : List ℕ) → rest_of (x ++ y) ≡ rest_of (rest_of x ++ y)
  pub last_piece : (x y : List ℕ) → lines_of (x ++ y) ≡ whole_lines x ++ lines_of (rest_of x ++ y)
  -- pieces in any number and of any size give the text of the whole input
  pub all-pieces : (ps : List (List ℕ)) → written_after [] ps ≡ lines_of (joined ps)
