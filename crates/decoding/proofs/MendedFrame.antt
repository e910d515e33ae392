-- The mended frame: each row completed at the columns of a set M and its declared ones. It is well-formed, keeps the symbols in all other cells, has all check
-- sums 0 exactly where every row can be completed, and is the only codeword that keeps these symbols where no row has fewer checks than columns to be
-- filled.
use mathlib.Core.Path.{◌≡◌, sym, ◌∙◌}
use mathlib.Core.Bool.{true, false}
use mathlib.Core.List.{List, []}
use mathlib.Core.Logic.{inl, inr, ◌↔◌}
use Prim.Native.Nat.{ℕ, suc, ◌+◌, ◌*◌, ◌≤◌, ◌<◌}
use native.Mathlib.Decide.{dec_lt}
use native.Mathlib.Omega.{arith}
use lib.ListN.{length, get_or}
use borrow.Author.Tests.{eqb-true, eq-eqb}
use Rattle.columns.specs.Columns.{has, either}
use Rattle.columns.proofs.Joined.{either-neither, either-below}
use Rattle.columns.specs.declared.Columns.{Columns}
use Rattle.decoding.specs.Remaining.{remaining, sums_read, completable, mended}
use Rattle.decoding.proofs.CompletedRows.{row-codeword, codeword-row}
use Rattle.decoding.proofs.FrameSums.{codeword-sums, sums-codeword}
use Rattle.frame.specs.Frame.{row, cell, check_sum, WellFormed, Codeword, Coded}
use Rattle.frame.specs.DeclaredCells.{Declared, erasures, as_read, WellFormedRead}
use Rattle.frame.specs.Shape.{is_shape, checks_of}
use Rattle.frame.specs.declared.Shape.{Shape}
use Rattle.frame.proofs.CompletedFrames.{length-completed_frame, completed_frame-kept, completed_frame-below, completed_frame-sums, completed_frame-only}
use Rattle.field257.proofs.Members.{size, Below}
use Rattle.frame.proofs.ReadFrames.{read_kept}
use Rattle.frame.proofs.Rows.{cell-place, each-symbol}
use Rattle.frame.proofs.Shapes.{shape-ranges}
use Rattle.lists.proofs.Tabulated.{every-at, every_of}

pub cell_below : (s : Shape) (f : List ℕ) → WellFormed s f → (h i : ℕ) → h < s.rows → i < s.columns → cell s.columns f h i < 257
cell_below s f well_formed h i below inside =
    well_formed.symbols (h * s.columns + i) (omega (arith, cell-place s.columns s.rows h i below inside, well_formed.size))

-- what is known where none of 7, 31 and 4 falls
pub record Read (s : Shape) (D : Declared) (f : List ℕ) : Type 0 where
  pub size : length f ≡ s.rows * s.columns
  pub inside : (h i : ℕ) → h < s.rows → i < 256 → has (D h) i ≡ true → i < s.columns
  pub few : (h : ℕ) → h < s.rows → erasures D h ≤ checks_of s h
  pub symbols : (h i : ℕ) → h < s.rows → i < s.columns → has (D h) i ≡ false → cell s.columns f h i < 257

pub read_facts : (s : Shape) → is_shape s ≡ true → (D : Declared) (f : List ℕ) → WellFormedRead s D f → Read s D f
read_facts s shape D f good = record {
  size = good.size;
  inside = λ h i below low mem. elim (dec_lt i s.columns) [
    | yes inside ↦ inside
    | no past ↦ absurd (good.declared (inr (h, i, (let q = (shape-ranges s shape).rows-most in omega arith), low, mem, inr (omega arith))))
  ];
  few = λ h below. elim (dec_lt (checks_of s h) (erasures D h)) [ yes more ↦ absurd (good.declared (inl (h, below, more))) | no few ↦ omega arith ];
  symbols = good.symbols;
}

-- a row can be completed at its marked and declared columns: nothing is left of its sums when these are taken out
abbrev pub RowFits : Shape → Declared → (M : Columns) (f : List ℕ) (h : ℕ) → Type 0
RowFits s D M f h =
    (j : ℕ) → j < length (remaining (either M (D h)) (get_or (sums_read s D f) h [])) → get_or (remaining (either M (D h)) (get_or (sums_read s D f) h [])) j 0 ≡ 0

module _ (s : Shape) (D : Declared) (M : Columns) (f : List ℕ) where
  pub fits-rows : completable s D M (sums_read s D f) ≡ true → (h : ℕ) → h < s.rows → RowFits s D M f h
  unfolding completable
  fits-rows fits h below k inside = eqb-true _ 0 (every-at _ _ (every-at s.rows _ fits h below) k inside)

  pub rows_fit : ((h : ℕ) → h < s.rows → RowFits s D M f h) → completable s D M (sums_read s D f) ≡ true
  unfolding completable
  rows_fit each = every_of s.rows _ (λ h below. every_of _ _ (λ j inside. eq-eqb _ 0 (each h below j inside)))

module _ (s : Shape) (shape : is_shape s ≡ true) (D : Declared) (f : List ℕ) (read : Read s D f) (M : Columns) (marks : Below s.columns M) where
  abbrev b : ℕ
  b = s.exponent

  abbrev n : ℕ
  n = s.columns

  abbrev F : List ℕ
  F = as_read s D f

  abbrev E : List ℕ
  E = mended s D M f

  narrow : n ≤ 256
  narrow = (shape-ranges s shape).columns-most

  undeclared : (h i : ℕ) → i < n → has (either M (D h)) i ≡ false → has (D h) i ≡ false
  undeclared h i inside out = (either-neither M (D h) i (let q = narrow in omega arith) out).1

  sets_inside : (h : ℕ) → h < s.rows → Below n (either M (D h))
  sets_inside h below = either-below M (D h) n (λ i _. marks i) (λ i. read.inside h i below)

  pub mended-size : length (mended s D M f) ≡ s.rows * s.columns
  unfolding mended
  mended-size = length-completed_frame b n s.rows (λ h. either M (D h)) f read.size

  pub mended-kept : (h i : ℕ) → h < s.rows → i < s.columns → has (either M (D h)) i ≡ false
      → cell s.columns (mended s D M f) h i ≡ cell s.columns (as_read s D f) h i
  unfolding mended
  mended-kept h i below inside out =
      completed_frame-kept b n s.rows (λ h. either M (D h)) f read.size h i below inside out
      ∙ sym (read_kept s D f read.size h i below inside (undeclared h i inside out))

  pub mended-zeros : (h j : ℕ) → h < s.rows → j < size (either M (D h)) → check_sum s.exponent s.columns (row s.columns (mended s D M f) h) (suc j) ≡ 0
  unfolding mended
  mended-zeros = completed_frame-sums b n s.rows (λ h. either M (D h)) f read.size narrow sets_inside

  pub mended_well_formed : WellFormed s (mended s D M f)
  unfolding mended
  mended_well_formed = record {
    size = mended-size;
    symbols = each-symbol (λ x. x < 257) n s.rows E mended-size
        (completed_frame-below b n s.rows (λ h. either M (D h)) f read.size (λ h i below inside out.
        read.symbols h i below inside (undeclared h i inside out)));
  }

  -- a codeword that keeps the symbols outside the sets shows that every row can be completed
  pub keeps-fits : (g : List ℕ) → Codeword s g
      → ((h i : ℕ) → h < s.rows → i < s.columns → has (either M (D h)) i ≡ false → cell s.columns g h i ≡ cell s.columns (as_read s D f) h i)
      → completable s D M (sums_read s D f) ≡ true
  keeps-fits g code kept = rows_fit s D M f (λ h below.
      codeword-row s shape F g h below (either M (D h)) (λ i inside. kept h i below inside) (λ k. codeword-sums s g code h k below))

  -- every row completed at its marked and declared columns has all its check sums 0 exactly where nothing is left
  pub completable-says : (completable s D M (sums_read s D f) ≡ true) ↔ Codeword s (mended s D M f)
  completable-says = (
    λ fits. sums-codeword s E (λ h j below.
        row-codeword s shape F E h below (either M (D h)) (λ i inside. mended-kept h i below inside) (λ k. mended-zeros h k below)
        (fits-rows s D M f fits h below) j),
    λ code. keeps-fits E code mended-kept,
  )

  pub mended-only : ((h : ℕ) → h < s.rows → size (either M (D h)) ≤ checks_of s h) → (g : List ℕ) → Coded s g
      → ((h i : ℕ) → h < s.rows → i < s.columns → has (either M (D h)) i ≡ false → cell s.columns g h i ≡ cell s.columns (as_read s D f) h i)
      → g ≡ mended s D M f
  unfolding mended
  mended-only reach g coded kept =
      completed_frame-only b n s.rows (λ h. either M (D h)) f read.size narrow sets_inside g coded.well_formed.size
      (cell_below s g coded.well_formed)
      (λ h i below inside out. kept h i below inside out ∙ read_kept s D f read.size h i below inside (undeclared h i inside out))
      (λ h j below few. coded.codeword h (suc j) below (omega arith) (let r = reach h below in omega arith))
