-- `dispatch_next::next::next` meets its contract, by that of the call on one job.
use mathlib.Core.Path.{refl, ap, ◌∙◌}
use Prim.Native.Nat.{ℕ}
use Rattle.job.specs.Calls.{next, step}
use Rattle.job.specs.Job.{beside}
use Rattle.job.specs.declared.Head.{Head}
use Rattle.kept.specs.Kept.{heads, searches, Kept, kept, arrays_at}
use Rattle.dispatch.proofs.Making.{made, step-put}
use Rattle.dispatch_next.proofs.next.next.Goals as goal
use Rattle.dispatch_next.proofs.next.next.Goals.{Start}

-- what is kept, whoever was served last
abbrev lent : Start → ℕ → Kept
lent c last =
    let a = c.args in
    kept (heads a.states.now a.extents.now a.checks.now a.marks.now) a.sums.now a.taps.now a.held.now
    (searches a.counts.now a.lengths.now a.symbols.now a.places.now a.sizes.now a.discs.now a.quotients.now
    a.register.now a.saved.now) last

pub put_head-requires : goal.put_head-requires
put_head-requires c = c.requires

pub returns : goal.returns
returns c =
    λ last.
    let k = c.args.k in
    let p = lent (goal.at.returns c).Start last in
    let done = c.next-r.ensures ∙ ap (λ (h : Head). step (beside h (arrays_at p k)) next) c.head_at.ensures in
    made p k next done refl (c.said.ensures (arrays_at p k) _) (step-put k p c.next-r.result.head c.put_head.ensures _ _ _ _ _ _ _ _)
