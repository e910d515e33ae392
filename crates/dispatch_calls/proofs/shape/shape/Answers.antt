-- `dispatch_calls::shape::shape` meets its contract, by that of the call on one job.
use mathlib.Core.Path.{refl, ap, ◌∙◌}
use mathlib.Core.List.{List}
use Prim.Native.Nat.{ℕ}
use Rattle.job.specs.Calls.{Call, shape, step}
use Rattle.job.specs.Job.{beside}
use Rattle.job.specs.declared.Head.{Head}
use Rattle.kept.specs.Kept.{heads, Searches, Kept, kept, arrays_at}
use Rattle.dispatch.proofs.Making.{made, head-put}
use Rattle.dispatch.proofs.Telling.{outside, inside}
use Rattle.dispatch_calls.proofs.shape.shape.Goals as goal
use Rattle.dispatch_calls.proofs.shape.shape.Goals.{Start}

-- what is kept, whatever the rest is
abbrev lent : Start → (sums taps held : List (List ℕ)) → Searches → ℕ → Kept
lent c sums taps held x last =
    let a = c.args in
    kept (heads a.states.now a.extents.now a.checks.now a.marks.now) sums taps held x last

abbrev call : Start → Call
call c = let a = c.args in shape a.columns a.given.now a.exponent

pub returns-then-k-ge8 : goal.returns-then-k-ge8
returns-then-k-ge8 c =
    λ sums taps held x last.
    outside (lent (goal.at.returns-then-k-ge8 c).Start sums taps held x last) c.args.k (call (goal.at.returns-then-k-ge8 c).Start) c.if-k-ge8.true refl

pub returns-in-Ok : goal.returns-in-Ok
returns-in-Ok c =
    λ sums taps held x last.
    let k = c.args.k in
    let p = lent (goal.at.returns-in-Ok c).Start sums taps held x last in
    let done = c.in-Ok.ensures (arrays_at p k) ∙ ap (λ (h : Head). step (beside h (arrays_at p k)) (call (goal.at.returns-in-Ok c).Start)) c.head_at-j.ensures in
    inside p k (call (goal.at.returns-in-Ok c).Start) c.if-k-ge8.false
    (made p k (call (goal.at.returns-in-Ok c).Start) done refl refl (head-put k p c.in-Ok.shaped c.put_head.ensures))

pub returns-in-Err : goal.returns-in-Err
returns-in-Err c =
    λ sums taps held x last.
    let k = c.args.k in
    let p = lent (goal.at.returns-in-Err c).Start sums taps held x last in
    let done = c.in-Err.ensures (arrays_at p k) ∙ ap (λ (h : Head). step (beside h (arrays_at p k)) (call (goal.at.returns-in-Err c).Start)) c.head_at-j.ensures in
    inside p k (call (goal.at.returns-in-Err c).Start) c.if-k-ge8.false
    (made p k (call (goal.at.returns-in-Err c).Start) done refl refl (head-put k p c.head_at-j.result c.put_head-in-Err.ensures))
