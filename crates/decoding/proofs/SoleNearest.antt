-- Frames with declared cells. A codeword at distance d gives a register of length d for the sequences that are left. Where their shortest register is
-- alone, a codeword lies at the distance of its length exactly where as many columns are named and every row can be completed at its marked and declared
-- columns. Where besides no row has fewer checks left, it is the mended frame alone: every other codeword lies farther.
use mathlib.Core.Path.{◌≡◌, sym, ap, ap₂, ◌∙◌}
use mathlib.Core.Bool.{Bool, true, false, ◌&&◌, ◌||◌, false≢true}
use mathlib.Core.List.{List}
use mathlib.Core.Logic.{◌⊎◌, inl, inr, ◌↔◌}
use Prim.Native.Nat.{ℕ, ◌*◌, ◌≤◌, ◌<◌}
use native.Mathlib.Decide.{dec_lt}
use native.Mathlib.Omega.{arith}
use lib.Dec.{ltb}
use lib.ListN.{length}
use borrow.Author.Tests.{lt-ltb, le-ltb, leb-true, le-leb}
use Rattle.columns.specs.Columns.{has, either}
use Rattle.columns.specs.Listed.{count}
use Rattle.columns.specs.declared.Columns.{Columns}
use Rattle.columns.proofs.Joined.{has_either, either-neither, size-either}
use Rattle.columns.proofs.Listing.{by-test}
use Rattle.columns.proofs.Marks.{columns_of_ext}
use Rattle.columns.proofs.Subset.{Within, within-le, within_same}
use Rattle.decoding.specs.Locating.{size_of, taps_of, alone_of, rows_reach, named, named_columns, names_all}
use Rattle.decoding.specs.Remaining.{sums_read, read_sequences, left_reach, completable, mended}
use Rattle.decoding.proofs.LeftSequences.{same-undeclared, left-power}
use Rattle.decoding.proofs.MendedFrame.{Read, mended-size, mended-kept, mended_well_formed, keeps-fits, completable-says, mended-only}
use Rattle.decoding.proofs.NamedColumns.{names-all, has_named, named_past, named-below, size-named}
use Rattle.decoding.proofs.PowerSums.{size-at-most, names_P, names-enough}
use Rattle.decoding.proofs.SequenceRegister.{generator_of}
use Rattle.frame.specs.DeclaredCells.{Declared, checks_left, as_read, differs_read, distance_read, differing_read}
use Rattle.frame.specs.Frame.{cell, Codeword, Coded, differs, distance, differing}
use Rattle.frame.specs.Shape.{is_shape, checks_of}
use Rattle.frame.specs.declared.Shape.{Shape}
use Rattle.frame.proofs.Distances.{agreeing}
use Rattle.frame.proofs.ReadFrames.{read-declared, read_kept}
use Rattle.frame.proofs.Shapes.{shape-ranges}
use Rattle.lists.proofs.Tabulated.{every-at, every_of}

pub left-reach : (s : Shape) (D : Declared) (c : ℕ) → left_reach s D c ≡ true → (h : ℕ) → h < s.rows → c ≤ checks_left s D h
unfolding left_reach
left-reach s D c e h below = leb-true c (checks_left s D h) (every-at s.rows _ e h below)

-- a row has no fewer checks than are left of them
pub rows-reach : (s : Shape) (D : Declared) (c : ℕ) → left_reach s D c ≡ true → rows_reach s c ≡ true
unfolding rows_reach
rows-reach s D c e = every_of s.rows _ (λ h below. le-leb c (checks_of s h) (let l = left-reach s D c e h below in omega arith))

module _ (s : Shape) (shape : is_shape s ≡ true) (D : Declared) (f : List ℕ) (read : Read s D f) where
  abbrev n : ℕ
  n = s.columns

  abbrev F : List ℕ
  F = as_read s D f

  abbrev c : ℕ
  c = size_of (read_sequences s D f)

  abbrev σ : List ℕ
  σ = taps_of (read_sequences s D f)

  abbrev M : Columns
  M = named_columns s σ

  narrow : n ≤ 256
  narrow = (shape-ranges s shape).columns-most

  -- ---- a codeword

  module _ (g : List ℕ) (sized : length g ≡ s.rows * s.columns) (code : Codeword s g) where
    -- none lies nearer than the register is long
    none-nearer : c ≤ distance_read s D g f
    unfolding distance
    none-nearer = size-at-most s shape (read_sequences s D f) (left-power s D f shape g sized code)

    -- one at that distance differs in the columns that are named
    module _ (alone : alone_of (read_sequences s D f) ≡ true) (near : distance_read s D g f ≤ c) where
      at_named : (i : ℕ) → i < n → differs_read s D g f i ≡ named s σ i
      unfolding distance
      at_named = names_P s shape (read_sequences s D f) (left-power s D f shape g sized code) alone near

      nearest-names : names_all s σ c ≡ true
      unfolding distance
      nearest-names = names-enough s shape (read_sequences s D f) (left-power s D f shape g sized code) alone near

      nearest-kept : (h i : ℕ) → h < s.rows → i < n → has (either M (D h)) i ≡ false → cell n g h i ≡ cell n F h i
      nearest-kept h i below inside out =
          let few : i < 256 = (let q = narrow in omega arith) in
          let (unmarked, undeclared) = either-neither M (D h) i few out in
          same-undeclared s D f shape g sized h i below inside undeclared (at_named i inside ∙ sym (has_named s σ i few) ∙ unmarked)

      nearest-completable : completable s D M (sums_read s D f) ≡ true
      nearest-completable = keeps-fits s shape D f read M (named-below s σ) g code nearest-kept

  -- ---- the mended frame

  abbrev E : List ℕ
  E = mended s D M f

  E-size : length E ≡ s.rows * s.columns
  E-size = mended-size s shape D f read M (named-below s σ)

  module _ (enough : names_all s σ c ≡ true)
      (fits : completable s D M (sums_read s D f) ≡ true) where
    all_named : count n (named s σ) ≡ c
    all_named = (names-all s c σ (generator_of (read_sequences s D f)).register shape).0 enough

    E-codeword : Codeword s E
    E-codeword = (completable-says s shape D f read M (named-below s σ)).0 fits

    pub mended-coded : Coded s (mended s D (named_columns s (taps_of (read_sequences s D f))) f)
    mended-coded = record { well_formed = mended_well_formed s shape D f read M (named-below s σ); codeword = E-codeword }

    within-named : Within n (differs s (as_read s D E) F) (named s σ)
    within-named i inside differ = pick (by-test (named s σ i))
      where
        cells : named s σ i ≡ false → (h : ℕ) → h < s.rows → (has (D h) i ≡ true) ⊎ (has (D h) i ≡ false) → cell n (as_read s D E) h i ≡ cell n F h i
        cells out h below (inl mem) =
            read-declared s D E E-size h i below inside mem ∙ sym (read-declared s D f read.size h i below inside mem)
        cells out h below (inr undeclared) =
            let few : i < 256 = (let q = narrow in omega arith) in
            read_kept s D E E-size h i below inside undeclared
            ∙ mended-kept s shape D f read M (named-below s σ) h i below inside (has_either M (D h) i few ∙ ap₂ ◌||◌ (has_named s σ i few ∙ out) undeclared)

        pick : (named s σ i ≡ true) ⊎ (named s σ i ≡ false) → named s σ i ≡ true
        pick (inl in-set) = in-set
        pick (inr out) =
            absurd (false≢true (sym (agreeing s (as_read s D E) F i (λ h below. cells out h below (by-test (has (D h) i)))) ∙ differ))

    pub mended-distance : distance_read s D (mended s D (named_columns s (taps_of (read_sequences s D f))) f) f ≡ size_of (read_sequences s D f)
    unfolding distance
    mended-distance =
        let least : c ≤ distance_read s D E f = none-nearer E E-size E-codeword in
        omega (arith, within-le n (differs s (as_read s D E) F) (named s σ) within-named, all_named)

    pub mended-differing : differing_read s D (mended s D (named_columns s (taps_of (read_sequences s D f))) f) f ≡ named_columns s (taps_of (read_sequences s D f))
    unfolding differing named_columns distance
    mended-differing = columns_of_ext _ (named s σ) (λ i _. pick i (dec_lt i n))
      where
        same : (i : ℕ) → i < n → differs s (as_read s D E) F i ≡ named s σ i
        same = within_same n (differs s (as_read s D E) F) (named s σ) within-named (mended-distance ∙ sym all_named)

        pick : (i : ℕ) → Dec (i < n) → (ltb i n && differs s (as_read s D E) F i) ≡ named s σ i
        pick i (yes inside) = ap (λ (b : Bool). b && differs s (as_read s D E) F i) (lt-ltb i n inside) ∙ same i inside
        pick i (no past) = ap (λ (b : Bool). b && differs s (as_read s D E) F i) (le-ltb i n (omega arith)) ∙ sym (named_past s σ i (omega arith))

  -- ---- the register alone

  module _ (alone : alone_of (read_sequences s D f) ≡ true) where
    -- (2) 26 is exact
    pub coded-at-size : ((names_all s σ c ≡ true)
        × (completable s D M (sums_read s D f) ≡ true))
        ↔ ((g : List ℕ) × Coded s g × (distance_read s D g f ≡ size_of (read_sequences s D f)))
    coded-at-size = (
      λ (enough, fits). (E, mended-coded enough fits, mended-distance enough fits),
      λ (g, coded, at).
          let near : distance_read s D g f ≤ c = omega arith in (
            nearest-names g coded.well_formed.size coded.codeword alone near,
            nearest-completable g coded.well_formed.size coded.codeword alone near,
          ),
    )

    module _ (reaches : left_reach s D (size_of (read_sequences s D f)) ≡ true) (g : List ℕ) (coded : Coded s g) where
      -- (3) and that frame is the only one so near
      pub nearest-only : distance_read s D g f ≤ size_of (read_sequences s D f) → g ≡ mended s D (named_columns s (taps_of (read_sequences s D f))) f
      nearest-only near =
          let sized = coded.well_formed.size in
          let enough = nearest-names g sized coded.codeword alone near in
          let all : count n (named s σ) ≡ c = (names-all s c σ (generator_of (read_sequences s D f)).register shape).0 enough in
          mended-only s shape D f read M (named-below s σ) (λ h below.
          let r = left-reach s D c reaches h below in
          let l = read.few h below in
          omega (arith, size-either M (D h), size-named s σ shape)) g coded
          (nearest-kept g sized coded.codeword alone near)

      pub sole_nearest : (g ≡ mended s D (named_columns s (taps_of (read_sequences s D f))) f → ⊥) → size_of (read_sequences s D f) < distance_read s D g f
      sole_nearest other = elim (dec_lt c (distance_read s D g f)) [ yes farther ↦ farther | no near ↦ absurd (other (nearest-only (omega arith))) ]
