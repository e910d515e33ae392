-- `calls::encode::encode` meets its contract.
use mathlib.Core.Path.{◌≡◌, sym, ◌∙◌}
use mathlib.Core.Bool.{false}
use Rattle.job.specs.Job.{counts_empty}
use Rattle.job.proofs.Emptiness.{has-shape}
use Rattle.locating.proofs.Steps.{encode-empty, encode-given}
use Rattle.calls.proofs.encode.encode.Goals as goal
use Rattle.calls.proofs.encode.encode.Goals.{Else-counts_as_empty}

pub returns-then-counts_as_empty : goal.returns-then-counts_as_empty
returns-then-counts_as_empty c = λ a. encode-empty _ _ (sym c.counts_as_empty.ensures ∙ c.if-counts_as_empty.true)

-- the job does not count as empty
full : (c : Else-counts_as_empty) → counts_empty c.args.j ≡ false
full c = sym c.counts_as_empty.ensures ∙ c.if-counts_as_empty.false

pub encode_frame-requires : goal.encode_frame-requires
encode_frame-requires c = has-shape _ (full (goal.at.encode_frame-requires c).Else-counts_as_empty)

pub returns : goal.returns
returns c =
    λ a. encode-given _ _ (full (goal.at.returns c).Else-counts_as_empty) c.encode_frame.result c.encode_frame.ensures.answer c.encode_frame.ensures.left
