-- Shapes of frames, and the refusals 2, 5, 6, 32 of a shape (SPECIFICATION.md, "Frames"). Rows are numbered from 0 here, and from 1 there.
use Rattle.std.specs.Prelude.{Bool, not, ◌&&◌, List, [], ◌∷◌, ◌++◌, ℕ, ◌-◌, leb, ltb, length, get_or, replicate}
use Rattle.lists.specs.Tabulate.{every}
use Rattle.refusal.specs.Order.{Test}
use Rattle.refusal.specs.Range.{in_range}
use Rattle.frame.specs.declared.Shape.{Shape}

-- the number N_h of checks of row h
abbrev pub checks_of : Shape → ℕ → ℕ
checks_of s h = get_or s.checks h 0

-- The shape of n columns that has a row for each of the check counts, and whose check sums begin at the exponent b; the places of the rows that it does not
-- have hold 0.
unfoldable pub shape_of : (n : ℕ) (checks : List ℕ) (b : ℕ) → Shape
shape_of n checks b =
    record { rows = length checks; columns = n; checks = checks ++ replicate (8 - length checks) 0; exponent = b }

-- the rows, columns, check counts and exponent of a shape are in range
unfoldable pub rows_in_range : ℕ → Bool
rows_in_range rows = in_range 1 8 rows

unfoldable pub columns_in_range : ℕ → Bool
columns_in_range n = in_range 2 256 n

unfoldable pub checks_in_range : (n rows : ℕ) (checks : List ℕ) → Bool
checks_in_range n rows checks =
    every rows (λ h. leb 1 (get_or checks h 0) && (leb (get_or checks h 0) 64 && ltb (get_or checks h 0) n))

unfoldable pub exponent_in_range : ℕ → Bool
exponent_in_range b = leb b 255

-- a value of the struct that is a shape
unfoldable pub is_shape : Shape → Bool
is_shape s =
    rows_in_range s.rows &&
    (columns_in_range s.columns && (checks_in_range s.columns s.rows s.checks && exponent_in_range s.exponent))

abbrev pub rows_test : (checks : List ℕ) → Test
rows_test checks = record { number = 2; fails = not (rows_in_range (length checks)) }

abbrev pub columns_test : (n : ℕ) → Test
columns_test n = record { number = 5; fails = not (columns_in_range n) }

abbrev pub checks_test : (n : ℕ) (checks : List ℕ) → Test
checks_test n checks = record { number = 6; fails = not (checks_in_range n (length checks) checks) }

abbrev pub exponent_test : (b : ℕ) → Test
exponent_test b = record { number = 32; fails = not (exponent_in_range b) }

-- the refusals of a shape in their order
unfoldable pub shape_tests : (n : ℕ) (checks : List ℕ) (b : ℕ) → List Test
shape_tests n checks b = rows_test checks ∷ columns_test n ∷ checks_test n checks ∷ exponent_test b ∷ []
