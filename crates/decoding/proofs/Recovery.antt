-- Recovery: the codeword g was sent and the frame f came, damaged in w columns of undeclared cells. Where rows with at least 2·w checks left show the
-- damage of every column, and no row has fewer than w checks left, the register of f is alone and has length w, and the mended frame is g.
use mathlib.Core.Path.{◌≡◌, sym, ◌∙◌}
use mathlib.Core.Bool.{true, false}
use mathlib.Core.List.{List}
use mathlib.Core.Logic.{◌⊎◌, inl, inr}
use Prim.Native.Nat.{ℕ, ◌+◌, ◌*◌, ◌≤◌, ◌<◌}
use native.Mathlib.Omega.{arith}
use lib.ListN.{length}
use borrow.Author.Tests.{le-leb}
use Rattle.columns.specs.Columns.{has}
use Rattle.columns.proofs.Listing.{by-test}
use Rattle.decoding.specs.Locating.{size_of, taps_of, alone_of, named_columns, names_all}
use Rattle.decoding.specs.Remaining.{sums_read, read_sequences, left_reach, completable, mended}
use Rattle.decoding.proofs.FrameSums.{error-same-cell}
use Rattle.decoding.proofs.LeftSequences.{rows_left, length-left, part, part-nonzero, left-power}
use Rattle.decoding.proofs.MendedFrame.{Read, cell_below}
use Rattle.decoding.proofs.PowerSums.{Shows, size-shown, alone-shown}
use Rattle.decoding.proofs.SoleNearest.{coded-at-size, nearest-only}
use Rattle.frame.specs.DeclaredCells.{Declared, erasures, checks_left, as_read, differs_read, distance_read}
use Rattle.frame.specs.Frame.{cell, Coded, distance}
use Rattle.frame.specs.Shape.{is_shape, checks_of}
use Rattle.frame.specs.declared.Shape.{Shape}
use Rattle.frame.proofs.Distances.{row_of_difference}
use Rattle.frame.proofs.ReadFrames.{read-declared, read_kept}
use Rattle.frame.proofs.Shapes.{shape-ranges}
use Rattle.lists.proofs.Tabulated.{every_of}

-- the rows of R show the damage: twice as many checks are left in each as columns are damaged, and every damaged column is damaged in an undeclared cell of
-- one of them; no row has fewer checks left than columns are damaged
pub record Shown (s : Shape) (D : Declared) (g f : List ℕ) (R : ℕ → Type 0) : Type 0 where
  pub reach : (h : ℕ) → h < s.rows → distance_read s D g f + erasures D h ≤ checks_of s h
  pub twice : (h : ℕ) → h < s.rows → R h → 2 * distance_read s D g f + erasures D h ≤ checks_of s h
  pub covers : (i : ℕ) → i < s.columns → differs_read s D g f i ≡ true
      → (h : ℕ) × (h < s.rows) × R h × (cell s.columns (as_read s D g) h i ≡ cell s.columns (as_read s D f) h i → ⊥)

pub record Recovers (s : Shape) (D : Declared) (g f : List ℕ) : Type 0 where
  pub size : size_of (read_sequences s D f) ≡ distance_read s D g f
  pub alone : alone_of (read_sequences s D f) ≡ true
  pub reaches : left_reach s D (size_of (read_sequences s D f)) ≡ true
  pub names : names_all s (taps_of (read_sequences s D f)) (size_of (read_sequences s D f)) ≡ true
  pub fits : completable s D (named_columns s (taps_of (read_sequences s D f))) (sums_read s D f) ≡ true
  pub frame : mended s D (named_columns s (taps_of (read_sequences s D f))) f ≡ g

-- where the checks left of every row are twice as many as columns are damaged, the rows show the damage
all-rows : (s : Shape) (D : Declared) (g f : List ℕ) → ((h : ℕ) → h < s.rows → 2 * distance_read s D g f + erasures D h ≤ checks_of s h)
    → Shown s D g f (λ h. h < s.rows)
all-rows s D g f twice =
    record {
      reach = λ h below. (let t = twice h below in omega arith);
      twice = λ h below _. twice h below;
      covers = λ i _ differ.
          let (h, below, apart) = row_of_difference s (as_read s D g) (as_read s D f) i differ in (h, below, below, apart);
    }

module _ (s : Shape) (shape : is_shape s ≡ true) (D : Declared) (g f : List ℕ) (coded : Coded s g) (read : Read s D f)
    (R : ℕ → Type 0) (damage : Shown s D g f R) where
  abbrev n : ℕ
  n = s.columns

  abbrev c : ℕ
  c = size_of (read_sequences s D f)

  sized : length g ≡ s.rows * s.columns
  sized = coded.well_formed.size

  -- a cell in which the frames as read differ is not declared
  undeclared : (h i : ℕ) → h < s.rows → i < n → (cell n (as_read s D g) h i ≡ cell n (as_read s D f) h i → ⊥) → has (D h) i ≡ false
  undeclared h i below inside apart = pick (by-test (has (D h) i))
    where
      pick : (has (D h) i ≡ true) ⊎ (has (D h) i ≡ false) → has (D h) i ≡ false
      pick (inr out) = out
      pick (inl mem) =
          absurd (apart (read-declared s D g sized h i below inside mem ∙ sym (read-declared s D f read.size h i below inside mem)))

  shows : Shows n (differs_read s D g f) (part s D f g) (read_sequences s D f)
  unfolding distance
  shows i inside differ =
      let (h, below, in_rows, apart) = damage.covers i inside differ in
      let few : i < 256 = (let q = (shape-ranges s shape).columns-most in omega arith) in
      let out : has (D h) i ≡ false = undeclared h i below inside apart in (
        h,
        (let q = rows_left s D f in omega arith),
        part-nonzero s D f g h i few out (λ z. apart (read_kept s D g sized h i below inside out
            ∙ sym (error-same-cell s.exponent n (as_read s D f) g h i
            (rw (read_kept s D f read.size h i below inside out) (read.symbols h i below inside out))
            (cell_below s g coded.well_formed h i below inside) z))),
        (let l = length-left s D f h below in omega (arith, damage.twice h below in_rows)),
      )

  size-w : c ≡ distance_read s D g f
  unfolding distance
  size-w = size-shown s shape (read_sequences s D f) (left-power s D f shape g sized coded.codeword) shows

  alone : alone_of (read_sequences s D f) ≡ true
  alone = alone-shown s shape (read_sequences s D f) (left-power s D f shape g sized coded.codeword) shows

  reaches : left_reach s D c ≡ true
  unfolding left_reach
  reaches = every_of s.rows _ (λ h below. le-leb c (checks_left s D h) (let q = size-w in omega (arith, damage.reach h below)))

  recovers : Recovers s D g f
  recovers =
      let (names, fits) = (coded-at-size s shape D f read alone).1 (g, coded, sym size-w) in
      record {
        size = size-w;
        alone = alone;
        reaches = reaches;
        names = names;
        fits = fits;
        frame = sym (nearest-only s shape D f read alone reaches g coded (let q = size-w in omega arith));
      }

-- Demand 3 speaks of this: in every row, twice the damaged columns and the declared cells are within the checks.
pub recovers-twice : (s : Shape) → is_shape s ≡ true → (D : Declared) (g f : List ℕ) → Coded s g → Read s D f
    → ((h : ℕ) → h < s.rows → 2 * distance_read s D g f + erasures D h ≤ checks_of s h) → Recovers s D g f
recovers-twice s shape D g f coded read twice = recovers s shape D g f coded read (λ h. h < s.rows) (all-rows s D g f twice)
