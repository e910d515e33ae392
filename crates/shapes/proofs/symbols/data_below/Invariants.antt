-- `shapes::symbols::data_below` meets its contract.
use mathlib.Core.Bool.{Bool, true}
use Prim.Native.Nat.{ℕ}
use lib.Dec.{ltb}
use Rattle.frame.proofs.FrameTests.{row_test}
use Rattle.lists.proofs.Testing.{Tested}
use Rattle.shapes.proofs.symbols.data_below.Given as goal

-- whether a cell holds a symbol
abbrev pub symbol : ℕ → Bool
symbol x = ltb x 257

abbrev pub invariant-loop-h : goal.invariant-loop-h
invariant-loop-h l = Tested l.s.rows (row_test symbol l.s l.frame) l.h true
