-- `uniform::encoded::data_hold` meets its contract.
use mathlib.Core.Bool.{Bool, true}
use Prim.Native.Nat.{ℕ}
use lib.Dec.{eqb}
use Rattle.frame.proofs.FrameTests.{row_test}
use Rattle.lists.proofs.Testing.{Tested}
use Rattle.uniform.proofs.encoded.data_hold.Given as goal

-- whether a cell holds a
abbrev pub holds : (a : ℕ) → ℕ → Bool
holds a x = eqb x a

abbrev pub invariant-loop-h : goal.invariant-loop-h
invariant-loop-h l = Tested l.s.rows (row_test (holds l.a) l.s l.frame) l.h true
