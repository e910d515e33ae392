-- With nothing declared, frames are read as they stand, nothing is taken out of their sums, and no row has less than its checks left.
use mathlib.Core.Path.{◌≡◌, refl, sym, ap, ap₂, ◌∙◌}
use mathlib.Core.Bool.{true, false}
use mathlib.Core.List.{List, [], ◌∷◌}
use Prim.Native.Nat.{ℕ, suc, ◌+◌, ◌-◌, ◌*◌, ◌%◌, ◌<◌}
use native.Mathlib.Nat.{mod-eq_of_lt, sub-zero}
use native.Mathlib.Omega.{arith}
use lib.Dec.{leb}
use lib.ListN.{length, get_or}
use Rattle.columns.specs.Columns.{has, members, Sound}
use Rattle.columns.specs.declared.Columns.{Columns}
use Rattle.columns.proofs.Joined.{either-none}
use Rattle.columns.proofs.Listing.{length-listed, count_skip, count-zero}
use Rattle.decoding.specs.Locating.{rows_reach}
use Rattle.decoding.specs.Remaining.{remaining, all_remaining, read_sequences, left_reach, mended}
use Rattle.decoding.proofs.FrameSums.{sequence-below}
use Rattle.decoding.proofs.MendedFrame.{cell_below}
use Rattle.field257.specs.LocatorPolynomial.{locator_polynomial}
use Rattle.frame.specs.Completion.{completed}
use Rattle.frame.specs.Encode.{each_row}
use Rattle.frame.specs.Frame.{WellFormed, sequences, distance, differing}
use Rattle.frame.specs.DeclaredCells.{Declared, erasures, declarable, WellFormedRead, distance_read, differing_read}
use Rattle.frame.specs.Shape.{is_shape, checks_of}
use Rattle.frame.specs.declared.Shape.{Shape}
use Rattle.frame.proofs.Declarable.{good_cells}
use Rattle.frame.proofs.ReadFrames.{read_none}
use Rattle.frame.proofs.Rows.{each_row_ext}
use Rattle.frame.proofs.Shapes.{shape-ranges}
use Rattle.frame.proofs.HeldSums.{length-sequences}
use Rattle.lists.specs.Tabulate.{tabulate}
use Rattle.lists.specs.Total.{total}
use Rattle.lists.proofs.Tabulated.{tabulate_ext, tabulate-get_or, every_ext}
use Rattle.register.specs.Register.{discrepancy}

no-entries : (l : List ℕ) → length l ≡ 0 → l ≡ []
no-entries [] e = refl
no-entries (x ∷ xs) e = absurd (let z : ⊥ = omega arith in z)

none-listed : (J : Columns) → ((i : ℕ) → i < 256 → has J i ≡ false) → members J ≡ []
none-listed J none = no-entries (members J) (length-listed 256 (has J) ∙ count_skip 0 256 (has J) (omega arith) (λ i _ low. none i low) ∙ count-zero (has J))

-- the product with the polynomial 1
with_one : (x : List ℕ) (j : ℕ) → get_or x j 0 < 257 → discrepancy 257 0 (locator_polynomial []) x (0 + suc j) ≡ get_or x j 0
unfolding discrepancy total locator_polynomial
with_one x j small =
    ap (λ k. (0 + 1 * get_or x k 0) % 257) (let q : 0 + suc j - 0 - 1 ≡ j = omega arith in q)
    ∙ ap (λ (v : ℕ). v % 257) (let q : 0 + 1 * get_or x j 0 ≡ get_or x j 0 = omega arith in q) ∙ mod-eq_of_lt small

pub remaining-none : (J : Columns) (x : List ℕ) → ((i : ℕ) → i < 256 → has J i ≡ false) → ((j : ℕ) → j < length x → get_or x j 0 < 257) → remaining J x ≡ x
unfolding remaining
remaining-none J x none small =
    ap (λ ms. tabulate (length x - length ms) (λ j. discrepancy 257 (length ms) (locator_polynomial ms) x (length ms + suc j))) (none-listed J none)
    ∙ ap (λ m. tabulate m (λ j. discrepancy 257 0 (locator_polynomial []) x (0 + suc j))) (sub-zero (length x))
    ∙ tabulate_ext (length x) _ (λ j. get_or x j 0) (λ j inside. with_one x j (small j inside))
    ∙ tabulate-get_or x 0

module _ (s : Shape) (shape : is_shape s ≡ true) (D : Declared) (none : (h i : ℕ) → h < s.rows → i < 256 → has (D h) i ≡ false) where
  inside : (h i : ℕ) → h < s.rows → i < s.columns → has (D h) i ≡ false
  inside h i below low = none h i below (let q = (shape-ranges s shape).columns-most in omega arith)

  pub no_cells : (h : ℕ) → h < s.rows → erasures D h ≡ 0
  no_cells h below = ap length (none-listed (D h) (λ i. none h i below))

  -- a frame that is well-formed as it stands is so as read
  pub well_formed_none : (f : List ℕ) → declarable s D ≡ true → WellFormed s f → WellFormedRead s D f
  well_formed_none f ok w = record {
    size = w.size;
    declared = good_cells s D ok;
    symbols = λ h i below inside out. cell_below s f w h i below inside;
  }

  pub reach-none : (c : ℕ) → left_reach s D c ≡ rows_reach s c
  unfolding left_reach rows_reach
  reach-none c = every_ext s.rows _ _ (λ h below. ap (leb c) (ap (λ (m : ℕ). checks_of s h - m) (no_cells h below) ∙ sub-zero (checks_of s h)))

  pub mended-none : (M : Columns) (f : List ℕ) → Sound M → mended s D M f ≡ each_row s.columns (λ h. completed s.exponent s.columns M) s.rows f
  unfolding mended
  mended-none M f sound =
      each_row_ext s.columns _ _ f s.rows
      (λ h x below. ap (λ (J : Columns). completed s.exponent s.columns J x) (either-none M (D h) sound (λ i. none h i below)))

  -- nothing is taken out of sums
  pub all-remaining-none : (S : List (List ℕ)) → length S ≡ s.rows → ((h j : ℕ) → h < s.rows → get_or (get_or S h []) j 0 < 257) → all_remaining s D S ≡ S
  unfolding all_remaining
  all-remaining-none S rows small =
      tabulate_ext s.rows _ (λ h. get_or S h []) (λ h below. remaining-none (D h) (get_or S h []) (λ i. none h i below) (λ j _. small h j below))
      ∙ ap (λ m. tabulate m (λ h. get_or S h [])) (sym rows) ∙ tabulate-get_or S []

  module _ (f : List ℕ) (whole : length f ≡ s.rows * s.columns) where
    pub sequences-none : read_sequences s D f ≡ sequences s f
    sequences-none =
        ap (all_remaining s D) (ap (sequences s) (read_none s D f whole inside))
        ∙ all-remaining-none (sequences s f) (length-sequences s f) (λ h j below. sequence-below s f h below j)

    pub distance_none : (g : List ℕ) → length g ≡ s.rows * s.columns → distance_read s D g f ≡ distance s g f
    distance_none g sized = ap₂ (distance s) (read_none s D g sized inside) (read_none s D f whole inside)

    pub differing-none : (g : List ℕ) → length g ≡ s.rows * s.columns → differing_read s D g f ≡ differing s g f
    differing-none g sized = ap₂ (differing s) (read_none s D g sized inside) (read_none s D f whole inside)
