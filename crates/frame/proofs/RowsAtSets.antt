-- A frame whose rows are changed one after the other, each at a set of columns of its own, by a change that keeps the number of columns: rows changed.
use mathlib.Core.Path.{◌≡◌, ap, ap₂, ◌∙◌}
use mathlib.Core.List.{List}
use Prim.Native.Nat.{ℕ, ◌+◌, ◌-◌, ◌*◌, ◌≤◌, ◌<◌}
use lib.ListN.{length}
use borrow.Rule.Slice.PartMut.{mid_of, put_mid}
use Rattle.columns.specs.declared.Columns.{Columns}
use Rattle.frame.proofs.RowsChanged.{RowsChanged, changed-more, length_part}

module _ (at : (n : ℕ) (J : Columns) (x : List ℕ) → List ℕ) (sized : (n : ℕ) (J : Columns) (x : List ℕ) → length (at n J x) ≡ n)
    (n rows : ℕ) (sets : ℕ → Columns) (f : List ℕ) where
  abbrev change : ℕ → List ℕ → List ℕ
  change h = at n (sets h)

  -- the first h rows are changed
  abbrev pub RowsAtSets : (h : ℕ) (frame : List ℕ) → Type 0
  RowsAtSets = RowsChanged n rows change f

  pub more-at_sets : (h : ℕ) (frame : List ℕ) → RowsAtSets h frame → h * n + n ≤ length f → (set : Columns) (y : List ℕ) → h < rows → set ≡ sets h
      → (let part = mid_of (h * n) (h * n + n - h * n) frame in y ≡ at (length part) set part)
      → RowsAtSets (h + 1) (put_mid (h * n) (h * n + n - h * n) frame y)
  more-at_sets h frame a inside set y l c e =
      changed-more n rows change f h frame a inside y l (ap length e ∙ sized (length part) set part ∙ width)
      (e ∙ ap₂ (λ (k : ℕ) (J : Columns). at k J part) width c)
    where
      part : List ℕ
      part = mid_of (h * n) (h * n + n - h * n) frame

      width : length part ≡ n
      width = length_part n rows change f h frame a inside
