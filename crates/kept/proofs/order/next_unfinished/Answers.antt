use mathlib.Core.Path.{sym}
use mathlib.Core.List.{List}
use Prim.Native.Nat.{ℕ, ◌+◌, ◌%◌}
use native.Mathlib.Omega.{arith}
use Rattle.mirror.specs.declared.CHead.{CHead}
use Rattle.kept.specs.Kept.{heads, numbers_at}
use Rattle.kept.proofs.InOrder.{three_unfinished, others-not, looks_first, looks_here, looks_on, looks_through}
use Rattle.kept.proofs.order.next_unfinished.Goals as goal
use Rattle.kept.proofs.order.next_unfinished.Goals.{In-loop-i}

-- the numbers of the job that is looked at
abbrev numbers-here : In-loop-i → (extents checks marks : List (List ℕ)) → CHead
numbers-here c extents checks marks =
    numbers_at (heads c.args.states.now extents checks marks) ((c.args.last % 8 + 1 + c.loop-i.i) % 8)

pub returns-then-states-k-eq3-clause-found : goal.returns-then-states-k-eq3-clause-found
returns-then-states-k-eq3-clause-found c =
    λ extents checks marks.
    let here = three_unfinished (numbers-here (goal.at.returns-then-states-k-eq3-clause-found c).In-loop-i extents checks marks) c.if-states-k-eq3.true in
    sym (looks_here _ _ (c.loop-i.invariant extents checks marks) (omega arith) here)

pub loop-i-init : goal.loop-i-init
loop-i-init c = λ extents checks marks. looks_first _ _

pub loop-i-preserved : goal.loop-i-preserved
loop-i-preserved c =
    λ extents checks marks.
    let here = others-not (numbers-here (goal.at.loop-i-preserved c).In-loop-i extents checks marks) c.if-states-k-eq3.false in
    looks_on _ _ (c.loop-i.invariant extents checks marks) (omega arith) here

pub returns-clause-found : goal.returns-clause-found
returns-clause-found c = λ extents checks marks. sym (looks_through _ _ (c.loop-i.invariant extents checks marks) c.loop-i-test.false)
