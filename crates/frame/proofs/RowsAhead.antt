-- A row that is still to be changed is as it was.
use mathlib.Core.Path.{◌≡◌, ap, ◌∙◌}
use mathlib.Core.List.{List}
use Prim.Native.Nat.{ℕ, ◌+◌, ◌-◌, ◌*◌, ◌≤◌}
use native.Mathlib.Omega.{arith}
use lib.ListN.{length, take, drop}
use borrow.Rule.Slice.PartMut.{mid_of}
use Rattle.frame.specs.Frame.{row}
use Rattle.frame.proofs.Rows.{each_row-later}
use Rattle.frame.proofs.RowsChanged.{RowsChanged}

pub row-ahead : (n rows : ℕ) (change : ℕ → List ℕ → List ℕ) → ((h : ℕ) (x : List ℕ) → length (change h x) ≡ n) → (f : List ℕ) (h : ℕ) (frame : List ℕ)
    → RowsChanged n rows change f h frame → h * n + n ≤ length f → mid_of (h * n) (h * n + n - h * n) frame ≡ row n f h
row-ahead n rows change sized f h frame a inside =
    ap (λ (k : ℕ). take k (drop (h * n) frame)) (let w : h * n + n - h * n ≡ n = omega arith in w)
    ∙ ap (λ (e : List ℕ). row n e h) a.entries ∙ each_row-later n change sized f h (omega arith) h (omega arith) inside
