-- `search::roots::sought_columns` meets its contract: blocks are tried up to the last column to find.
use Prim.Native.Nat.{◌+◌, ◌-◌}
use mathlib.Core.Bool.{cond}
use lib.Dec.{eqb}
use Rattle.search.proofs.Trials.{SoFar}
use Rattle.search.proofs.roots.sought_columns.Given as goal

abbrev pub invariant-loop-left : goal.invariant-loop-left
invariant-loop-left l = SoFar l.taps l.columns l.tried l.left l.words

-- none once nothing is left to find
abbrev pub decreases-loop-left : goal.decreases-loop-left
decreases-loop-left l = cond (eqb l.left 0) 0 (1 + (l.columns - l.tried))
