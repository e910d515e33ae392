-- `slicing::peek::peek` meets its contract.
use mathlib.Core.Path.{◌≡◌, sym, ◌∙◌}
use mathlib.Core.Bool.{false}
use Rattle.job.specs.Job.{counts_empty}
use Rattle.searching.proofs.Calling.{peek-empty, peek-other, peek-gives}
use Rattle.slicing.proofs.peek.peek.Goals as goal
use Rattle.slicing.proofs.peek.peek.Goals.{Else-counts_as_empty}

pub returns-then-counts_as_empty : goal.returns-then-counts_as_empty
returns-then-counts_as_empty c = λ taps. peek-empty _ (sym c.counts_as_empty.ensures ∙ c.if-counts_as_empty.true)

-- the job does not count as empty
full : (c : Else-counts_as_empty) → counts_empty c.args.j ≡ false
full c = sym c.counts_as_empty.ensures ∙ c.if-counts_as_empty.false

pub counts_as_unfinished-requires : goal.counts_as_unfinished-requires
counts_as_unfinished-requires c = full c

pub returns-then-not-counts_as_unfinished : goal.returns-then-not-counts_as_unfinished
returns-then-not-counts_as_unfinished c =
    λ taps. peek-other _ (full (goal.at.returns-then-not-counts_as_unfinished c).Else-counts_as_empty) (sym (c.counts_as_unfinished.ensures taps) ∙ c.if-not-counts_as_unfinished.true)

pub returns : goal.returns
returns c =
    λ taps. peek-gives _ (full (goal.at.returns c).Else-counts_as_empty) (sym (c.counts_as_unfinished.ensures taps) ∙ c.if-not-counts_as_unfinished.false) _
    c.from.ensures
