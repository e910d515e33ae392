-- `dispatch_slices::start::start` meets its contract, by that of the call on one job.
use mathlib.Core.Path.{refl, ap, ◌∙◌}
use Prim.Native.Nat.{ℕ}
use Rattle.job.specs.Calls.{Call, start, step}
use Rattle.job.specs.Job.{beside}
use Rattle.job.specs.declared.Head.{Head}
use Rattle.kept.specs.Kept.{heads, searches, Kept, kept, arrays_at}
use Rattle.dispatch.proofs.Making.{made, start-put}
use Rattle.dispatch.proofs.Telling.{outside, inside}
use Rattle.dispatch_slices.proofs.start.start.Goals as goal
use Rattle.dispatch_slices.proofs.start.start.Goals.{Start}

-- what is kept, whoever was served last
abbrev lent : Start → ℕ → Kept
lent c last =
    let a = c.args in
    kept (heads a.states.now a.extents.now a.checks.now a.marks.now) a.sums.now a.taps.now a.held.now
    (searches a.counts.now a.lengths.now a.symbols.now a.places.now a.sizes.now a.discs.now a.quotients.now
    a.register.now a.saved.now) last

abbrev call : Start → Call
call c = start c.args.declared.now c.args.frame.now

pub returns-then-k-ge8 : goal.returns-then-k-ge8
returns-then-k-ge8 c =
    λ last.
    outside (lent (goal.at.returns-then-k-ge8 c).Start last) c.args.k (call (goal.at.returns-then-k-ge8 c).Start) c.if-k-ge8.true (c.no_job.ensures _)

pub put_head-requires : goal.put_head-requires
put_head-requires c = c.if-k-ge8.false

pub returns : goal.returns
returns c =
    λ last.
    let k = c.args.k in
    let p = lent (goal.at.returns c).Start last in
    let done = c.start-r.ensures ∙ ap (λ (h : Head). step (beside h (arrays_at p k)) (call (goal.at.returns c).Start)) c.head_at.ensures in
    inside p k (call (goal.at.returns c).Start) c.if-k-ge8.false
    (made p k (call (goal.at.returns c).Start) done refl (c.said.ensures (arrays_at p k) _) (start-put k p c.start-r.result.head c.put_head.ensures _ _ _ _))
