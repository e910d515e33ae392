-- A step through C that goes on is answered with no head made anew.
use mathlib.Core.Path.{◌≡◌, ap, ◌∙◌}
use mathlib.Core.Bool.{Bool, true}
use mathlib.Core.List.{List, []}
use Prim.Native.Nat.{ℕ}
use lib.Dec.{eqb}
use Rattle.dispatch.proofs.GoingOn as Dispatcher
use Rattle.job.specs.Calls.{Outcome, unfinished}
use Rattle.job.specs.Job.{Arrays, no_columns, unfinished_job}
use Rattle.mirror.specs.Mirror.{head_of, answered_of}
use Rattle.mirror.specs.declared.CAnswered.{CAnswered}
use Rattle.mirror.specs.declared.CHead.{CHead}
use Rattle.onward.specs.GoingOn.{GoesOn}
use Rattle.slices.specs.Synthesis.{Synthesis}
use Rattle.capi.specs.Exports.{HeadSteps, arrays_of}

pub gone_on : (m : CHead) (x : Synthesis) {r : Bool} {y : Synthesis} → GoesOn (eqb m.phase 3) (head_of m).shape x r y → r ≡ true
    → (sums taps held : List ℕ) {a : CAnswered}
    → ((b : Arrays) (f : List ℕ) →
    a ≡ answered_of (record { answer = unfinished; marks = no_columns; tried = 0; job = unfinished_job (head_of m).shape b; frame = f }))
    → HeadSteps m sums taps held x a taps y
gone_on m x {r} {y} gone e sums taps held told =
    let done = Dispatcher.gone_on m x gone e sums taps held in
    record { answers = told (arrays_of sums taps held y) [] ∙ ap answered_of done; arrays = ap (λ (o : Outcome). o.job.arrays) done }
