-- `dispatch_steps::step::step` meets its contract.
use Prim.Native.Nat.{ℕ}
use Rattle.job.specs.Calls.{next}
use Rattle.kept.specs.Kept.{heads, searches, Kept, kept}
use Rattle.dispatch.proofs.Telling.{outside, inside}
use Rattle.dispatch_steps.proofs.step.step.Goals as goal
use Rattle.dispatch_steps.proofs.step.step.Goals.{Start}

-- what is kept, whoever was served last
abbrev lent : Start → ℕ → Kept
lent c last =
    let a = c.args in
    kept (heads a.states.now a.extents.now a.checks.now a.marks.now) a.sums.now a.taps.now a.held.now
    (searches a.counts.now a.lengths.now a.symbols.now a.places.now a.sizes.now a.discs.now a.quotients.now
    a.register.now a.saved.now) last

pub returns-then-k-ge8 : goal.returns-then-k-ge8
returns-then-k-ge8 c =
    λ last.
    outside (lent (goal.at.returns-then-k-ge8 c).Start last) c.args.k next c.if-k-ge8.true (c.no_job.ensures _)

pub returns : goal.returns
returns c =
    λ last.
    inside (lent (goal.at.returns c).Start last) c.args.k next c.if-k-ge8.false (c.make_step.ensures last)
