-- `dispatch_calls::encode::encode` meets its contract, by that of the call on one job.
use mathlib.Core.Path.{refl, ap, ◌∙◌}
use mathlib.Core.List.{List}
use Prim.Native.Nat.{ℕ}
use Rattle.job.specs.Calls.{encode, step}
use Rattle.job.specs.Job.{beside}
use Rattle.job.specs.declared.Head.{Head}
use Rattle.kept.specs.Kept.{heads, Searches, Kept, kept, arrays_at}
use Rattle.dispatch.specs.Told.{told_by}
use Rattle.dispatch.proofs.Telling.{outside, inside}
use Rattle.dispatch_calls.proofs.encode.encode.Goals as goal
use Rattle.dispatch_calls.proofs.encode.encode.Goals.{Start}

-- what is kept, whatever the rest is
abbrev lent : Start → (sums taps held : List (List ℕ)) → Searches → ℕ → Kept
lent c sums taps held x last =
    let a = c.args in
    kept (heads a.states.now a.extents.now a.checks.now a.marks.now) sums taps held x last

pub returns-then-k-ge8 : goal.returns-then-k-ge8
returns-then-k-ge8 c =
    λ sums taps held x last.
    outside (lent (goal.at.returns-then-k-ge8 c).Start sums taps held x last) c.args.k (encode c.args.frame.now) c.if-k-ge8.true refl

pub returns : goal.returns
returns c =
    λ sums taps held x last.
    let a = c.args in
    let k = a.k in
    let p = lent (goal.at.returns c).Start sums taps held x last in
    let done = c.encode.ensures (arrays_at p k)
    ∙ ap (λ (h : Head). step (beside h (arrays_at p k)) (encode a.frame.now)) c.head_at.ensures in
    inside p k (encode a.frame.now) c.if-k-ge8.false (record { tells = ap told_by done; leaves = refl })
