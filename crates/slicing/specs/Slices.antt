-- What start, next and peek do, by the definitions of the calls.
use Rattle.std.specs.Prelude.{◌≡◌, List, [], ℕ, Result}
use Rattle.job.specs.Answers.{answered_outcome, peek_outcome}
use Rattle.job.specs.Calls.{start, next, peek, step}
use Rattle.job.specs.Job.{beside}
use Rattle.job.specs.declared.Answered.{Answered}
use Rattle.job.specs.declared.Head.{Head}
use Rattle.refusal.specs.declared.Refusal.{Refusal}
use Rattle.searching.specs.Arriving.{all_arrays}
use Rattle.slices.specs.Synthesis.{Synthesis}

-- start answers r and leaves the arrays, y where x stood
abbrev pub StartDoes :
    (j : Head) (sums taps held : List ℕ) (x : Synthesis) (declared frame : List ℕ) (r : Answered) (sumsLeft taps_left heldLeft : List ℕ) (y : Synthesis) →
    Type 0
StartDoes j sums taps held x declared frame r sumsLeft taps_left heldLeft y =
    answered_outcome r (all_arrays sumsLeft taps_left heldLeft y) frame ≡ step (beside j (all_arrays sums taps held x)) (start declared frame)

-- a step answers r, and leaves the taps and y where x stood
abbrev pub NextDoes : (j : Head) (sums taps held : List ℕ) (x : Synthesis) (r : Answered) (taps_left : List ℕ) (y : Synthesis) → Type 0
NextDoes j sums taps held x r taps_left y =
    answered_outcome r (all_arrays sums taps_left held y) [] ≡ step (beside j (all_arrays sums taps held x)) next

-- peek answers r, whatever the taps are
abbrev pub PeekDoes : (j : Head) (sums held : List ℕ) (x : Synthesis) (r : Result ℕ Refusal) → Type 0
PeekDoes j sums held x r =
    (taps : List ℕ) → peek_outcome (beside j (all_arrays sums taps held x)) r ≡ step (beside j (all_arrays sums taps held x)) peek
