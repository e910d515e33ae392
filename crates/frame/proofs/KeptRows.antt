-- A row tested outside a set as it is lent is the row of the frame tested by its cells.
use mathlib.Core.Path.{◌≡◌, sym, ap, ap₂, ◌∙◌}
use mathlib.Core.Bool.{Bool, ◌||◌}
use mathlib.Core.List.{List}
use Prim.Native.Nat.{ℕ, ◌+◌, ◌-◌, ◌*◌}
use native.Mathlib.Omega.{arith}
use lib.Dec.{eqb}
use lib.ListN.{length, get_or}
use borrow.Rule.Slice.PartMut.{mid_of, mid_len}
use Rattle.columns.specs.Columns.{has}
use Rattle.columns.specs.declared.Columns.{Columns}
use Rattle.frame.specs.Frame.{cell}
use Rattle.frame.specs.declared.Shape.{Shape}
use Rattle.frame.proofs.RowPlace.{RowPlace}
use Rattle.lists.specs.Tabulate.{every}
use Rattle.lists.proofs.Entries.{get_d_part}
use Rattle.lists.proofs.Tabulated.{every_ext}

pub row-held : (s : Shape) (f : List ℕ) (h : ℕ) → RowPlace s (length f) h → (J set : Columns) → set ≡ J → (a : ℕ) (r : Bool)
    → (let cells = mid_of (h * s.columns) (h * s.columns + s.columns - h * s.columns) f in
    r ≡ every (length cells) (λ k. has set k || eqb (get_or cells k 0) a))
    → every s.columns (λ k. has J k || eqb (cell s.columns f h k) a) ≡ r
row-held s f h place J set e a r t =
    every_ext n _ _ (λ k l.
    ap₂ (λ (K : Columns) (x : ℕ). has K k || eqb x a) (sym e) (sym (get_d_part (h * n) (h * n + n - h * n) f k 0 (omega arith))))
    ∙ ap (λ (m : ℕ). every m (λ k. has set k || eqb (get_or cells k 0) a)) (let q = mid_len (h * n) (h * n + n) f place.inside in omega arith)
    ∙ sym t
  where
    n : ℕ
    n = s.columns

    cells : List ℕ
    cells = mid_of (h * n) (h * n + n - h * n) f
