-- `dispatch_slices::peek::peek` meets its contract, by that of the call on one job.
use mathlib.Core.Path.{refl, ap, ◌∙◌}
use mathlib.Core.List.{List, []}
use Prim.Native.Nat.{ℕ}
use lib.ListN.{get_or}
use Rattle.job.specs.Calls.{peek, step}
use Rattle.job.specs.Job.{beside}
use Rattle.job.specs.declared.Head.{Head}
use Rattle.kept.specs.Kept.{heads, searches, Kept, kept, arrays_at}
use Rattle.dispatch.specs.Told.{told_by}
use Rattle.dispatch.proofs.Telling.{outside, inside}
use Rattle.dispatch_slices.proofs.peek.peek.Goals as goal
use Rattle.dispatch_slices.proofs.peek.peek.Goals.{Start}

-- what is kept, whatever the rest is
abbrev lent : Start → (taps : List (List ℕ)) → ℕ → Kept
lent c taps last =
    let a = c.args in
    kept (heads a.states.now a.extents.now a.checks.now a.marks.now) a.sums.now taps a.held.now
    (searches a.counts.now a.lengths.now a.symbols.now a.places.now a.sizes.now a.discs.now a.quotients.now
    a.register.now a.saved.now) last

pub returns-then-k-ge8 : goal.returns-then-k-ge8
returns-then-k-ge8 c = λ taps last. outside (lent (goal.at.returns-then-k-ge8 c).Start taps last) c.args.k peek c.if-k-ge8.true refl

pub returns : goal.returns
returns c =
    λ taps last.
    let k = c.args.k in
    let p = lent (goal.at.returns c).Start taps last in
    let done = c.peek.ensures (get_or taps k []) ∙ ap (λ (h : Head). step (beside h (arrays_at p k)) peek) c.head_at.ensures in
    inside p k peek c.if-k-ge8.false (record { tells = ap told_by done; leaves = refl })
