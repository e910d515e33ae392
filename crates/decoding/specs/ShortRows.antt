-- Short rows (SPECIFICATION.md, "Short rows"): rows with fewer checks left than the register is long. What is marked of them, and what repair leaves where
-- there are some.
use Rattle.std.specs.Prelude.{◌≡◌, ◌↔◌, Bool, true, false, cond, ◌&&◌, List, ℕ, ◌≤◌, ◌<◌, leb, ltb, length}
use Rattle.columns.specs.Columns.{bit, number, columns_of, either, members}
use Rattle.columns.specs.declared.Columns.{Columns}
use Rattle.frame.specs.Completion.{completed}
use Rattle.frame.specs.DeclaredCells.{Declared, checks_left}
use Rattle.frame.specs.Encode.{each_row}
use Rattle.frame.specs.Frame.{uniform}
use Rattle.frame.specs.Shape.{checks_of}
use Rattle.frame.specs.declared.Shape.{Shape}
use Rattle.lists.specs.Tabulate.{every}
use Rattle.decoding.specs.Remaining.{mended}

-- row h has fewer than c checks left
unfoldable pub is_short : Shape → Declared → (c h : ℕ) → Bool
is_short s D c h = ltb (checks_left s D h) c

-- the short rows as a set of eight marks, row 1 lowest
unfoldable pub short_rows : Shape → Declared → (c : ℕ) → ℕ
short_rows s D c = number 8 (λ h. ltb h s.rows && is_short s D c h)

-- The same in words: r has the mark of row h exactly where it is a row with fewer than c checks left, and no other bit.
pub record AreShort (s : Shape) (D : Declared) (c r : ℕ) : Type 0 where
  pub each : (h : ℕ) → h < s.rows → (bit r h ≡ true) ↔ (checks_left s D h < c)
  pub rest : (h : ℕ) → s.rows ≤ h → bit r h ≡ false
  pub eight : r < 256

-- Whether no row has more marked and declared columns than checks: where the rows can be completed, there is then one codeword only to be mended to.
unfoldable pub determined : Shape → Declared → (M : Columns) → Bool
determined s D M = every s.rows (λ h. leb (length (members (either M (D h)))) (checks_of s h))

-- whether it is so, and that codeword is uniform
unfoldable pub only_uniform : Shape → Declared → (M : Columns) (f : List ℕ) → Bool
only_uniform s D M f = determined s D M && uniform (mended s D M f)

-- the columns of row h that are filled, r being the set of the short rows: none of a short row
unfoldable pub filled : Declared → (M : Columns) (r h : ℕ) → Columns
filled D M r h = cond (bit r h) (columns_of (λ i. false)) (either M (D h))

-- what repair leaves: short rows as received, each other row completed at its marked and declared columns
unfoldable pub mended_rows : Shape → Declared → (M : Columns) (r : ℕ) (f : List ℕ) → List ℕ
mended_rows s D M r f = each_row s.columns (λ h. completed s.exponent s.columns (filled D M r h)) s.rows f
