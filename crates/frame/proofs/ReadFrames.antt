-- Frames as read: 0 in the declared cells, the frame's own symbols in all others.
use mathlib.Core.Path.{◌≡◌, sym, ap, ◌∙◌}
use mathlib.Core.Bool.{true, false}
use mathlib.Core.List.{List}
use mathlib.Core.Logic.{◌⊎◌, inl, inr}
use Prim.Native.Nat.{ℕ, ◌*◌, ◌<◌}
use native.Mathlib.Omega.{arith}
use lib.ListN.{length, get_or}
use Rattle.columns.specs.Columns.{has}
use Rattle.columns.specs.declared.Columns.{Columns}
use Rattle.columns.proofs.Listing.{by-test}
use Rattle.lists.proofs.Tabulated.{length-tabulate}
use Rattle.frame.proofs.CompletionLaws.{cleared-kept, cleared-empty}
use Rattle.frame.proofs.Rows.{row-cell, length-each_row, each_row-row, same-frames}
use Rattle.frame.specs.Completion.{cleared}
use Rattle.frame.specs.Frame.{row, cell, distance, differing}
use Rattle.frame.specs.DeclaredCells.{Declared, as_read, distance_read, differing_read}
use Rattle.frame.specs.declared.Shape.{Shape}

pub length-cleared : (n : ℕ) (J : Columns) (x : List ℕ) → length (cleared n J x) ≡ n
unfolding cleared
length-cleared n J x = length-tabulate n _

module _ (s : Shape) (D : Declared) (f : List ℕ) (whole : length f ≡ s.rows * s.columns) where
  abbrev n : ℕ
  n = s.columns

  pub length-read : length (as_read s D f) ≡ s.rows * s.columns
  unfolding as_read
  length-read = length-each_row n _ (λ h x. length-cleared n (D h) x) f s.rows (omega arith) ∙ whole

  read-row : (h : ℕ) → h < s.rows → row n (as_read s D f) h ≡ cleared n (D h) (row n f h)
  unfolding as_read
  read-row h r = each_row-row n _ (λ h x. length-cleared n (D h) x) f s.rows (omega arith) h r

  read_cell : (h i : ℕ) → h < s.rows → i < s.columns → cell n (as_read s D f) h i ≡ get_or (cleared n (D h) (row n f h)) i 0
  read_cell h i r c = sym (row-cell n (as_read s D f) h i c) ∙ ap (λ (x : List ℕ). get_or x i 0) (read-row h r)

  pub read-declared : (h i : ℕ) → h < s.rows → i < s.columns → has (D h) i ≡ true → cell s.columns (as_read s D f) h i ≡ 0
  read-declared h i r c e = read_cell h i r c ∙ cleared-empty n (D h) (row n f h) i c e

  pub read_kept : (h i : ℕ) → h < s.rows → i < s.columns → has (D h) i ≡ false → cell s.columns (as_read s D f) h i ≡ cell s.columns f h i
  read_kept h i r c e = read_cell h i r c ∙ cleared-kept n (D h) (row n f h) i c e ∙ row-cell n f h i c

  -- with nothing declared a frame is read as it stands
  pub read_none : ((h i : ℕ) → h < s.rows → i < s.columns → has (D h) i ≡ false) → as_read s D f ≡ f
  read_none none = same-frames n s.rows (as_read s D f) f length-read whole (λ h i r c. read_kept h i r c (none h i r c))

-- what the declared cells hold plays no part: frames that agree in all others are read alike, and every frame is as far from the one as from the other
module _ (s : Shape) (D : Declared) (f g : List ℕ) (whole : length f ≡ s.rows * s.columns) (sized : length g ≡ s.rows * s.columns)
    (same : (h i : ℕ) → h < s.rows → i < s.columns → has (D h) i ≡ false → cell s.columns f h i ≡ cell s.columns g h i) where
  pub read_same : as_read s D f ≡ as_read s D g
  read_same =
      same-frames s.columns s.rows (as_read s D f) (as_read s D g) (length-read s D f whole) (length-read s D g sized) (λ h i r c.
      by-mark h i r c (by-test (has (D h) i)))
    where
      by-mark : (h i : ℕ) → h < s.rows → i < s.columns → (has (D h) i ≡ true) ⊎ (has (D h) i ≡ false)
          → cell s.columns (as_read s D f) h i ≡ cell s.columns (as_read s D g) h i
      by-mark h i r c (inl mem) = read-declared s D f whole h i r c mem ∙ sym (read-declared s D g sized h i r c mem)
      by-mark h i r c (inr out) = read_kept s D f whole h i r c out ∙ same h i r c out ∙ sym (read_kept s D g sized h i r c out)

  pub distance-same : (x : List ℕ) → distance_read s D x f ≡ distance_read s D x g
  distance-same x = ap (distance s (as_read s D x)) read_same

  pub differing-same : (x : List ℕ) → differing_read s D x f ≡ differing_read s D x g
  differing-same x = ap (differing s (as_read s D x)) read_same
