-- `erasures::cells::is_declarable` meets its contract.
use mathlib.Core.Bool.{Bool, true}
use mathlib.Core.List.{List}
use Prim.Native.Nat.{ℕ}
use Rattle.frame.specs.DeclaredCells.{declared_by}
use Rattle.frame.specs.declared.Shape.{Shape}
use Rattle.lists.proofs.Testing.{Tested}
use Rattle.erasures.specs.Rows.{row_declarable}
use Rattle.erasures.proofs.cells.is_declarable.Given as goal

-- whether the cells of row h can be declared
abbrev pub row : Shape → List ℕ → ℕ → Bool
row s words h = row_declarable s (declared_by words h) h

abbrev pub invariant-loop-h : goal.invariant-loop-h
invariant-loop-h l = Tested 8 (row l.s l.declared) l.h true
