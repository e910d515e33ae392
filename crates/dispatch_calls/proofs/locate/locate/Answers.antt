-- `dispatch_calls::locate::locate` meets its contract, by that of the call on one job.
use mathlib.Core.Path.{refl, ap, ◌∙◌}
use Prim.Native.Nat.{ℕ}
use Rattle.job.specs.Calls.{Call, locate, step}
use Rattle.job.specs.Job.{beside}
use Rattle.job.specs.declared.Head.{Head}
use Rattle.kept.specs.Kept.{heads, Searches, Kept, kept, arrays_at}
use Rattle.dispatch.proofs.Making.{made, found-put}
use Rattle.dispatch.proofs.Telling.{outside, inside}
use Rattle.dispatch_calls.proofs.locate.locate.Goals as goal
use Rattle.dispatch_calls.proofs.locate.locate.Goals.{Start}

-- what is kept, whatever the rest is
abbrev lent : Start → Searches → ℕ → Kept
lent c x last =
    let a = c.args in
    kept (heads a.states.now a.extents.now a.checks.now a.marks.now) a.sums.now a.taps.now a.held.now x last

abbrev call : Start → Call
call c = locate c.args.declared.now c.args.frame.now

pub returns-then-k-ge8 : goal.returns-then-k-ge8
returns-then-k-ge8 c =
    λ x last.
    outside (lent (goal.at.returns-then-k-ge8 c).Start x last) c.args.k (call (goal.at.returns-then-k-ge8 c).Start) c.if-k-ge8.true (c.no_job.ensures _)

pub returns : goal.returns
returns c =
    λ x last.
    let k = c.args.k in
    let p = lent (goal.at.returns c).Start x last in
    let done = c.locate-r.ensures (arrays_at p k) ∙ ap (λ (h : Head). step (beside h (arrays_at p k)) (call (goal.at.returns c).Start)) c.head_at.ensures in
    inside p k (call (goal.at.returns c).Start) c.if-k-ge8.false
    (made p k (call (goal.at.returns c).Start) done refl (c.said.ensures (arrays_at p k) _) (found-put k p c.locate-r.result.head c.put_head.ensures _ _ _))
