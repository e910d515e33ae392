-- `uniform::constant::constant_coded` meets its contract.
use mathlib.Core.Bool.{Bool, true}
use Prim.Native.Nat.{ℕ, suc}
use lib.Dec.{eqb}
use lib.ListN.{replicate}
use Rattle.frame.specs.Frame.{check_sum}
use Rattle.lists.proofs.Testing.{Tested}
use Rattle.uniform.proofs.constant.constant_coded.Given as goal

-- whether check sum j + 1 is 0
abbrev pub vanishes : (b n a j : ℕ) → Bool
vanishes b n a j = eqb (check_sum b n (replicate n a) (suc j)) 0

abbrev pub invariant-loop-j : goal.invariant-loop-j
invariant-loop-j l = Tested l.m (vanishes l.b l.n l.a) l.j true
