-- `kept::order::next_unfinished` meets its contract.
use mathlib.Core.Bool.{Bool}
use mathlib.Core.List.{List}
use Prim.Native.Nat.{ℕ}
use Rattle.job.specs.Job.{is_unfinished_phase}
use Rattle.kept.specs.Kept.{heads, head_at}
use Rattle.kept.proofs.InOrder.{Looking}
use Rattle.kept.proofs.order.next_unfinished.Given as goal

-- whether job k is unfinished, whatever the rest of the heads is
abbrev pub unfinished : (states extents checks marks : List (List ℕ)) → ℕ → Bool
unfinished states extents checks marks k = is_unfinished_phase (head_at (heads states extents checks marks) k).phase

abbrev pub invariant-loop-i : goal.invariant-loop-i
invariant-loop-i l = (extents checks marks : List (List ℕ)) → Looking (unfinished l.states extents checks marks) l.last l.i
