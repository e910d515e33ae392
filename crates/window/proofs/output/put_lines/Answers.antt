use mathlib.Core.Logic.{inl, inr}
use Prim.Native.Nat.{◌+◌, ◌≤◌}
use native.Mathlib.Omega.{arith}
use borrow.Author.Rules.{rules}
use Rattle.window.proofs.Putting.{putting_none, next-within, putting_more, due-none, stopped}
use Rattle.window.proofs.output.put_lines.Goals as goal
use Rattle.window.proofs.output.put_lines.Goals.{Else-size-eq0}

within_of : (c : Else-size-eq0) → c.loop-used.start + c.next_size-size.result ≤ c.args.w.end
within_of c =
    next-within _ _ _ _ c.requires.inside.within _ _ _ c.loop-used.invariant _ c.next_size-size.ensures

pub loop-used-init : goal.loop-used-init
loop-used-init c = putting_none _ _ _ _ _ c.requires.inside.ordered

pub slice_bounds-next_size-count : goal.slice_bounds-next_size-count
slice_bounds-next_size-count c = c.loop-used.invariant.within

pub overflow_add-next : goal.overflow_add-next
overflow_add-next c = let e = within_of c in search rules

pub slice_bounds-line-end : goal.slice_bounds-line-end
slice_bounds-line-end c = let e = within_of c in search rules

pub loop-used-smaller : goal.loop-used-smaller
loop-used-smaller c = let e = within_of (goal.at.loop-used-smaller c).Else-size-eq0 in let n = c.if-size-eq0.false in omega arith

pub loop-used-preserved : goal.loop-used-preserved
loop-used-preserved c =
    let line = c.line-used in
    putting_more _ _ _ _ c.requires.inside.within _ _ _ c.loop-used.invariant _ c.next_size-size.ensures (let n = c.if-size-eq0.false in omega arith) _ _
    line.ensures.written (let room = line.ensures.upper_bound in let wide = c.requires.line in search rules)

pub returns-after-loop-used : goal.returns-after-loop-used
returns-after-loop-used c =
    let room = c.requires.line in
    stopped _ _ _ _ _ c.loop-used.invariant (inr (omega arith))

pub returns-then-size-eq0 : goal.returns-then-size-eq0
returns-then-size-eq0 c =
    stopped _ _ _ _ _ c.loop-used.invariant
    (inl (due-none _ _ _ _ c.requires.inside.within _ _ _ c.loop-used.invariant _ c.next_size-size.ensures c.if-size-eq0.true))
