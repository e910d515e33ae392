-- `uniform::mended::rows_hold` meets its contract.
use mathlib.Core.Bool.{Bool, true, ◌||◌}
use mathlib.Core.List.{List}
use Prim.Native.Nat.{ℕ}
use lib.Dec.{eqb}
use Rattle.columns.specs.Columns.{either, has}
use Rattle.columns.specs.declared.Columns.{Columns}
use Rattle.frame.specs.DeclaredCells.{declared_by}
use Rattle.frame.specs.Frame.{cell}
use Rattle.lists.specs.Tabulate.{every}
use Rattle.lists.proofs.Testing.{Tested}
use Rattle.uniform.proofs.mended.rows_hold.Given as goal

-- whether the cells of row h outside its marked and declared columns hold a
abbrev pub row_holds : (n : ℕ) (declared : List ℕ) (M : Columns) (f : List ℕ) (a h : ℕ) → Bool
row_holds n declared M f a h = every n (λ k. has (either M (declared_by declared h)) k || eqb (cell n f h k) a)

abbrev pub invariant-loop-h : goal.invariant-loop-h
invariant-loop-h l = Tested l.s.rows (row_holds l.s.columns l.declared l.marked l.frame l.a) l.h true
