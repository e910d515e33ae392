-- `calls::locate::locate` meets its contract.
use mathlib.Core.Path.{◌≡◌, refl, sym, ◌∙◌}
use mathlib.Core.Bool.{false}
use Rattle.job.specs.Job.{counts_empty}
use Rattle.locating.proofs.Steps.{refusal-outcome, locate-empty}
use Rattle.calls.proofs.locate.locate.Goals as goal
use Rattle.calls.proofs.locate.locate.Goals.{Else-counts_as_empty}

pub returns-then-counts_as_empty : goal.returns-then-counts_as_empty
returns-then-counts_as_empty c =
    λ a. refusal-outcome _ _ _ c.refuse.ensures refl
    ∙ locate-empty _ _ _ (sym c.counts_as_empty.ensures ∙ c.if-counts_as_empty.true)

-- the job does not count as empty
full : (c : Else-counts_as_empty) → counts_empty c.args.j ≡ false
full c = sym c.counts_as_empty.ensures ∙ c.if-counts_as_empty.false

pub locate_whole-requires : goal.locate_whole-requires
locate_whole-requires c =
    record { full = full (goal.at.locate_whole-requires c).Else-counts_as_empty; nothing = sym c.nothing.ensures ∙ c.if-nothing.true }

pub locate_read-requires : goal.locate_read-requires
locate_read-requires c =
    record { full = full (goal.at.locate_read-requires c).Else-counts_as_empty; some = sym c.nothing.ensures ∙ c.if-nothing.false }
