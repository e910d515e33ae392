-- Declared cells (SPECIFICATION.md, "Declared cells"), the specification's term for erasures: cells that are known to be lost and are read as 0, a set of
-- columns for each row. Which sets can be declared, the frame as it is read, its refusals, and how far apart two frames are in the cells that are not declared.
use Rattle.std.specs.Prelude.{◌≡◌, Bool, true, false, not, ◌&&◌, ◌||◌, List, [], ◌∷◌, ◌⊎◌, ◌↔◌, ℕ, ◌-◌, ◌*◌, ◌≤◌, ◌<◌, leb, ltb, eqb, length, get_or, take, drop}
use Rattle.columns.specs.Columns.{has, members}
use Rattle.columns.specs.declared.Columns.{Columns}
use Rattle.lists.specs.Tabulate.{every}
use Rattle.refusal.specs.Order.{Reason, First, Test}
use Rattle.refusal.specs.Outcome.{outcome, refused}
use Rattle.frame.specs.Completion.{cleared}
use Rattle.frame.specs.Demands.{size_reason}
use Rattle.frame.specs.Encode.{each_row}
use Rattle.frame.specs.Frame.{cell, differs, distance, differing}
use Rattle.frame.specs.Shape.{checks_of}
use Rattle.frame.specs.declared.Shape.{Shape}

-- the declared columns of each row
abbrev pub Declared : Type 0
Declared = ℕ → Columns

-- what 32 words declare: four words for each of the eight rows that a shape can have, in the form of the marks
abbrev pub declared_by : (words : List ℕ) → Declared
declared_by words h = record { words = take 4 (drop (4 * h) words) }

-- the words declare no cell
unfoldable pub nothing_declared : (words : List ℕ) → Bool
nothing_declared words = every 32 (λ k. eqb (get_or words k 0) 0)

-- the number ε_h of declared cells of row h
abbrev pub erasures : Declared → ℕ → ℕ
erasures D h = length (members (D h))

-- what is left of the checks of row h
abbrev pub checks_left : Shape → Declared → ℕ → ℕ
checks_left s D h = checks_of s h - erasures D h

-- the frame as it is read: 0 in the declared cells
unfoldable pub as_read : Shape → Declared → (f : List ℕ) → List ℕ
as_read s D f = each_row s.columns (λ h. cleared s.columns (D h)) s.rows f

-- ---- the refusals

-- no mark of row h is past the last row or column
unfoldable pub marks_inside : Shape → Declared → (h : ℕ) → Bool
marks_inside s D h = every 256 (λ i. not (has (D h) i) || (ltb h s.rows && ltb i s.columns))

-- refusal 31 does not fall: each of the eight rows has its marks within the shape, and each row of the shape no more of them than checks
unfoldable pub declarable : Shape → Declared → Bool
declarable s D = every 8 (marks_inside s D) && every s.rows (λ h. leb (erasures D h) (checks_of s h))

-- every undeclared cell holds a symbol
unfoldable pub undeclared_below : Shape → Declared → (f : List ℕ) → Bool
undeclared_below s D f =
    every s.rows (λ h. every s.columns (λ i. has (D h) i || ltb (cell s.columns f h i) 257))

abbrev pub size_test : Shape → (f : List ℕ) → Test
size_test s f = record { number = 7; fails = not (eqb (length f) (s.rows * s.columns)) }

abbrev pub declared_test : Shape → Declared → Test
declared_test s D = record { number = 31; fails = not (declarable s D) }

abbrev pub symbols_test : Shape → Declared → (f : List ℕ) → Test
symbols_test s D f = record { number = 4; fails = not (undeclared_below s D f) }

-- the refusals of a frame with the cells that are declared of it, in their order
unfoldable pub read_tests : Shape → Declared → (f : List ℕ) → List Test
read_tests s D f = size_test s f ∷ declared_test s D ∷ symbols_test s D f ∷ []

-- those of a frame that is read again with cells that are declared already
unfoldable pub reread_tests : Shape → Declared → (f : List ℕ) → List Test
reread_tests s D f = size_test s f ∷ symbols_test s D f ∷ []

-- ---- their reasons

-- more declared cells than checks in a row, or a mark past the last row or column
abbrev pub BadCells : Shape → Declared → Type 0
BadCells s D =
    ((h : ℕ) × (h < s.rows) × (checks_of s h < erasures D h)) ⊎
    ((h : ℕ) × (i : ℕ) × (h < 8) × (i < 256) × (has (D h) i ≡ true) × ((s.rows ≤ h) ⊎ (s.columns ≤ i)))

abbrev pub declared_reason : Shape → Declared → Reason
declared_reason s D = record { number = 31; holds = BadCells s D }

-- a cell that is not declared holds no symbol
abbrev pub symbols_reason : Shape → Declared → (f : List ℕ) → Reason
symbols_reason s D f =
    record {
      number = 4;
      holds =
          (h : ℕ) × (i : ℕ) × (h < s.rows) × (i < s.columns) × (has (D h) i ≡ false) × (257 ≤ cell s.columns f h i);
    }

abbrev pub read_reasons : Shape → Declared → (f : List ℕ) → List Reason
read_reasons s D f = size_reason s f ∷ declared_reason s D ∷ symbols_reason s D f ∷ []

abbrev pub reread_reasons : Shape → Declared → (f : List ℕ) → List Reason
reread_reasons s D f = size_reason s f ∷ symbols_reason s D f ∷ []

-- the specification's term: well-formed, none of 7, 31 and 4 meets the frame, whatever its declared cells hold
pub record WellFormedRead (s : Shape) (D : Declared) (f : List ℕ) : Type 0 where
  pub size : length f ≡ s.rows * s.columns
  pub declared : BadCells s D → ⊥
  pub symbols : (h i : ℕ) → h < s.rows → i < s.columns → has (D h) i ≡ false → cell s.columns f h i < 257

-- ---- distance

-- Distance and its columns are those of the frames as read: declared cells do not count.
abbrev pub differs_read : Shape → Declared → (f g : List ℕ) (i : ℕ) → Bool
differs_read s D f g i = differs s (as_read s D f) (as_read s D g) i

abbrev pub distance_read : Shape → Declared → (f g : List ℕ) → ℕ
distance_read s D f g = distance s (as_read s D f) (as_read s D g)

abbrev pub differing_read : Shape → Declared → (f g : List ℕ) → Columns
differing_read s D f g = differing s (as_read s D f) (as_read s D g)

-- ---- what is owed

-- the frame g is f as it is read
pub record IsRead (s : Shape) (D : Declared) (f g : List ℕ) : Type 0 where
  pub size : length g ≡ s.rows * s.columns
  pub declared : (h i : ℕ) → h < s.rows → i < s.columns → has (D h) i ≡ true → cell s.columns g h i ≡ 0
  pub kept : (h i : ℕ) → h < s.rows → i < s.columns → has (D h) i ≡ false → cell s.columns g h i ≡ cell s.columns f h i

-- some cell of column i that is not declared differs
abbrev pub DiffersAt : Shape → Declared → (f g : List ℕ) (i : ℕ) → Type 0
DiffersAt s D f g i =
    (h : ℕ) × (h < s.rows) × (has (D h) i ≡ false) × (cell s.columns f h i ≡ cell s.columns g h i → ⊥)

-- Declared cells are read as 0, whatever they hold, and all others as they stand; distance counts the columns that differ in undeclared cells; and each of the
-- numbers 7, 31, 4 is given exactly where its reason is the first that holds. Proved in proofs/Demands.antt.
pub record Reading : Type 0 where
  pub as_read : (s : Shape) (D : Declared) (f : List ℕ) → length f ≡ s.rows * s.columns → IsRead s D f (as_read s D f)
  pub counted :
      (s : Shape) (D : Declared) (f g : List ℕ) → length f ≡ s.rows * s.columns → length g ≡ s.rows * s.columns → (i : ℕ) →
      i < s.columns → (differs_read s D f g i ≡ true) ↔ DiffersAt s D f g i
  pub refused : (s : Shape) (D : Declared) (f : List ℕ) (k : ℕ) → (outcome (read_tests s D f) ≡ refused k) ↔ First k (read_reasons s D f)
