-- Locating and repair with declared cells (SPECIFICATION.md, "Declared cells"). All of locating is a function of the check sums of the frame as read and of
-- the declared cells.
use Rattle.std.specs.Prelude.{Bool, not, ◌||◌, List, [], ℕ, suc, ◌+◌, ◌-◌, leb, ltb, eqb, length, get_or}
use Rattle.columns.specs.Columns.{either, members}
use Rattle.columns.specs.declared.Columns.{Columns}
use Rattle.field257.specs.LocatorPolynomial.{locator_polynomial}
use Rattle.frame.specs.Completion.{completed}
use Rattle.frame.specs.DeclaredCells.{Declared, as_read, checks_left}
use Rattle.frame.specs.Encode.{each_row}
use Rattle.frame.specs.Frame.{sequences}
use Rattle.frame.specs.declared.Shape.{Shape}
use Rattle.lists.specs.Tabulate.{tabulate, every}
use Rattle.register.specs.Register.{discrepancy}

-- What is left of a row's check sums x when the cells in J are taken out: γ_0·S_(j+ε) + .. + γ_ε·S_j for j = 1 .. N − ε, γ being the locator polynomial of
-- the ε columns of J. Nothing is left (the list is empty) where J has as many columns as the row has checks, or more.
unfoldable pub remaining : (J : Columns) (x : List ℕ) → List ℕ
remaining J x =
    let ε : ℕ = length (members J) in
    tabulate (length x - ε) (λ j. discrepancy 257 ε (locator_polynomial (members J)) x (ε + suc j))

-- the sequences that the register is sought for, S being the check sums of each row
unfoldable pub all_remaining : Shape → Declared → (S : List (List ℕ)) → List (List ℕ)
all_remaining s D S = tabulate s.rows (λ h. remaining (D h) (get_or S h []))

-- the check sums of the frame as read, and what is left of them
abbrev pub sums_read : Shape → Declared → (f : List ℕ) → List (List ℕ)
sums_read s D f = sequences s (as_read s D f)

abbrev pub read_sequences : Shape → Declared → (f : List ℕ) → List (List ℕ)
read_sequences s D f = all_remaining s D (sums_read s D f)

-- whether every row has at least c checks left
unfoldable pub left_reach : Shape → Declared → (c : ℕ) → Bool
left_reach s D c = every s.rows (λ h. leb c (checks_left s D h))

-- whether row h can be completed at its marked and declared columns: with these taken out, what is left of its sums is 0
abbrev pub row_completable : Declared → (M : Columns) (S : List (List ℕ)) (h : ℕ) → Bool
row_completable D M S h =
    let left : List ℕ = remaining (either M (D h)) (get_or S h []) in
    every (length left) (λ j. eqb (get_or left j 0) 0)

-- whether each row can
unfoldable pub completable : Shape → Declared → (M : Columns) (S : List (List ℕ)) → Bool
completable s D M S = every s.rows (λ h. row_completable D M S h)

-- whether some marked column is declared: together they are fewer
abbrev pub meets : (M J : Columns) → Bool
meets M J = ltb (length (members (either M J))) (length (members M) + length (members J))

-- Whether each row in which some marked column is declared can be completed. Where the columns are those that a register of the sequences names, as many as it
-- is long, the other rows can be completed too, so that this is `completable` (proofs/RowsApart.antt).
unfoldable pub meeting_completable : Shape → Declared → (M : Columns) (S : List (List ℕ)) → Bool
meeting_completable s D M S = every s.rows (λ h. not (meets M (D h)) || row_completable D M S h)

-- each row completed at its marked and declared columns
unfoldable pub mended : Shape → Declared → (M : Columns) (f : List ℕ) → List ℕ
mended s D M f = each_row s.columns (λ h. completed s.exponent s.columns (either M (D h))) s.rows f
