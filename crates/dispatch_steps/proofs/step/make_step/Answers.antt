-- `dispatch_steps::step::make_step` meets its contract.
use mathlib.Core.Path.{refl}
use mathlib.Core.List.{[]}
use Prim.Native.Nat.{ℕ}
use lib.ListN.{get_or}
use Rattle.job.specs.Calls.{next}
use Rattle.job.specs.Job.{unfinished_head}
use Rattle.kept.specs.Kept.{heads, numbers_at, head_at, searches, search_at, Kept, kept}
use Rattle.dispatch.proofs.GoingOn.{as_lent, gone_on}
use Rattle.dispatch.proofs.Making.{made, from-same, going-put, unfinished-put, nothing_put}
use Rattle.dispatch_steps.proofs.step.make_step.Goals as goal
use Rattle.dispatch_steps.proofs.step.make_step.Goals.{Start}

-- what is kept, whoever was served last
abbrev lent : Start → ℕ → Kept
lent c last =
    let a = c.args in
    kept (heads a.states.now a.extents.now a.checks.now a.marks.now) a.sums.now a.taps.now a.held.now
    (searches a.counts.now a.lengths.now a.symbols.now a.places.now a.sizes.now a.discs.now a.quotients.now
    a.register.now a.saved.now) last

pub returns-then-go_on : goal.returns-then-go_on
returns-then-go_on c =
    λ last.
    let k = c.args.k in
    let p = lent (goal.at.returns-then-go_on c).Start last in
    let done = gone_on (numbers_at p.heads k) (search_at p.searches k) c.go_on.ensures c.if-go_on.true
    (get_or p.sums k []) (get_or p.taps k []) (get_or p.declared k []) in
    made p k next done refl c.still_unfinished.ensures
    (going-put k p (unfinished_head (head_at p.heads k).shape) (unfinished-put k p.heads) _ _ _ _ _ _ _)

pub returns : goal.returns
returns c =
    λ last.
    let k = c.args.k in
    let p = lent (goal.at.returns c).Start last in
    let kept-still = nothing_put k p.searches (as_lent (numbers_at p.heads k) (search_at p.searches k) c.go_on.ensures c.if-go_on.false) in
    from-same p k next kept-still (c.next.ensures last)
