-- Distance: a column counts where some row differs in it, and once, so that the distance is the size of the set `differing`.
use mathlib.Core.Path.{◌≡◌, ap, ◌∙◌}
use mathlib.Core.Bool.{Bool, true, false, not, ◌&&◌}
use mathlib.Core.List.{List}
use Prim.Native.Nat.{ℕ, ◌≤◌, ◌<◌}
use lib.Dec.{ltb}
use lib.ListN.{length}
use borrow.Author.Tests.{eqb-true, eqb-false, eq-eqb, lt-ltb, le-ltb, not-true, not-false}
use Rattle.columns.proofs.Listing.{length-listed, count_ext, count_skip}
use Rattle.columns.proofs.Marks.{members-columns_of}
use Rattle.lists.proofs.Tabulated.{every-at, every_of, every_witness}
use Rattle.field257.proofs.Members.{size}
use Rattle.frame.specs.Frame.{cell, differs, distance, differing}
use Rattle.frame.specs.declared.Shape.{Shape}

-- the frames have the same symbol at row h and column i
abbrev SameCell : Shape → (f g : List ℕ) (h i : ℕ) → Type 0
SameCell s f g h i = cell s.columns f h i ≡ cell s.columns g h i

module _ (s : Shape) (f g : List ℕ) where
  -- ---- one column

  module _ (i : ℕ) where
    pub agree : differs s f g i ≡ false → (h : ℕ) → h < s.rows → SameCell s f g h i
    unfolding differs
    agree e h r = eqb-true _ _ (every-at s.rows _ (not-false _ e) h r)

    pub agreeing : ((h : ℕ) → h < s.rows → SameCell s f g h i) → differs s f g i ≡ false
    unfolding differs
    agreeing e = ap not (every_of s.rows _ (λ h r. eq-eqb _ _ (e h r)))

    pub row_of_difference : differs s f g i ≡ true → (h : ℕ) × (h < s.rows) × (SameCell s f g h i → ⊥)
    unfolding differs
    row_of_difference e = let (h, r, apart) = every_witness s.rows _ (not-true _ e) in (h, r, eqb-false _ _ apart)

  -- ---- the set of columns that differ

  counted : ℕ → Bool
  counted i = ltb i s.columns && differs s f g i

  counted-inside : (i : ℕ) → i < s.columns → counted i ≡ differs s f g i
  unfolding counted
  counted-inside i c = rw (lt-ltb i s.columns c)

  pub differing-size : s.columns ≤ 256 → size (differing s f g) ≡ distance s f g
  unfolding differing distance counted
  differing-size narrow =
      ap length (members-columns_of counted) ∙ length-listed 256 counted
      ∙ count_skip s.columns 256 counted narrow (λ i past _. rw (le-ltb i s.columns past))
      ∙ count_ext s.columns counted (differs s f g) counted-inside
