-- `slicing::start::start` meets its contract.
use mathlib.Core.Path.{◌≡◌, refl, sym, ◌∙◌}
use mathlib.Core.Bool.{false}
use Rattle.job.specs.Job.{counts_empty}
use Rattle.locating.proofs.Steps.{refusal-outcome}
use Rattle.searching.proofs.Calling.{start-empty}
use Rattle.slicing.proofs.start.start.Goals as goal
use Rattle.slicing.proofs.start.start.Goals.{Else-counts_as_empty}

pub returns-then-counts_as_empty : goal.returns-then-counts_as_empty
returns-then-counts_as_empty c =
    refusal-outcome _ _ _ c.refuse.ensures refl
    ∙ start-empty _ _ _ (sym c.counts_as_empty.ensures ∙ c.if-counts_as_empty.true)

-- the job does not count as empty
full : (c : Else-counts_as_empty) → counts_empty c.args.j ≡ false
full c = sym c.counts_as_empty.ensures ∙ c.if-counts_as_empty.false

pub start_whole-requires : goal.start_whole-requires
start_whole-requires c =
    record { full = full (goal.at.start_whole-requires c).Else-counts_as_empty; nothing = sym c.nothing.ensures ∙ c.if-nothing.true }

pub start_read-requires : goal.start_read-requires
start_read-requires c =
    record { full = full (goal.at.start_read-requires c).Else-counts_as_empty; some = sym c.nothing.ensures ∙ c.if-nothing.false }
