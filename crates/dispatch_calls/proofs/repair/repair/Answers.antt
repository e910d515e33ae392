-- `dispatch_calls::repair::repair` meets its contract, by that of the call on one job.
use mathlib.Core.Path.{refl, ap, ◌∙◌}
use mathlib.Core.List.{List}
use Prim.Native.Nat.{ℕ}
use Rattle.job.specs.Calls.{repair, step}
use Rattle.job.specs.Job.{beside}
use Rattle.job.specs.declared.Head.{Head}
use Rattle.kept.specs.Kept.{heads, Searches, Kept, kept, arrays_at}
use Rattle.dispatch.proofs.Making.{made, head-put}
use Rattle.dispatch.proofs.Telling.{outside, inside}
use Rattle.dispatch_calls.proofs.repair.repair.Goals as goal
use Rattle.dispatch_calls.proofs.repair.repair.Goals.{Start}

-- what is kept, whatever the rest is
abbrev lent : Start → (taps : List (List ℕ)) → Searches → ℕ → Kept
lent c taps x last =
    let a = c.args in
    kept (heads a.states.now a.extents.now a.checks.now a.marks.now) a.sums.now taps a.held.now x last

pub returns-then-k-ge8 : goal.returns-then-k-ge8
returns-then-k-ge8 c =
    λ taps x last.
    outside (lent (goal.at.returns-then-k-ge8 c).Start taps x last) c.args.k (repair c.args.frame.now) c.if-k-ge8.true (c.no_job.ensures _)

pub returns : goal.returns
returns c =
    λ taps x last.
    let k = c.args.k in
    let f = c.args.frame.now in
    let p = lent (goal.at.returns c).Start taps x last in
    let done = c.repair-r.ensures (arrays_at p k) ∙ ap (λ (h : Head). step (beside h (arrays_at p k)) (repair f)) c.head_at.ensures in
    inside p k (repair f) c.if-k-ge8.false
    (made p k (repair f) done refl (c.said.ensures (arrays_at p k) _) (head-put k p c.repair-r.result.head c.put_head.ensures))
