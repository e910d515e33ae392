-- `erasures::cells::left_reach` meets its contract.
use mathlib.Core.Bool.{true}
use lib.Dec.{leb}
use Rattle.frame.specs.DeclaredCells.{declared_by, checks_left}
use Rattle.lists.proofs.Testing.{Tested}
use Rattle.erasures.proofs.cells.left_reach.Given as goal

abbrev pub invariant-loop-h : goal.invariant-loop-h
invariant-loop-h l = Tested l.s.rows (λ k. leb l.c (checks_left l.s (declared_by l.declared) k)) l.h true
