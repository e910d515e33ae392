-- `reduce_two` leaves the taps less the multiple. The invariant: they are reduced by the saved taps passed.
use mathlib.Core.Path.{◌≡◌}
use Prim.Native.Nat.{suc}
use lib.ListN.{take}
use Rattle.field.specs.Coefficients.{reduced}
use Rattle.reduction.specs.Reductions.{block}
use Rattle.reduction.proofs.reduce.reduce_two.Given as goal

abbrev pub invariant-loop-i : goal.invariant-loop-i
invariant-loop-i l =
    l.taps ≡ reduced 2 143 l.initial.taps l.q l.e (take l.i (take (suc l.m) (block l.h l.saved)))
