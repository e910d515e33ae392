-- `located_frames::locate_frame` meets its contract.
use mathlib.Core.Path.{◌≡◌, sym, ◌∙◌}
use mathlib.Core.List.{[]}
use borrow.Author.Rules.{rules}
use Rattle.std.specs.Prelude.{Ok}
use Rattle.job.specs.Job.{no_arrays}
use Rattle.job.specs.declared.Progress.TheVariants.{Columns, Unfinished}
use Rattle.job.proofs.AfterRefusal.{never-columns}
use Rattle.job.proofs.LocatedBy.{never_both}
use Rattle.locating.proofs.Steps.{refusal-outcome}
use Rattle.located_frames.proofs.Seeing.{not-counted, counted_mendable, counted-uniform, counted_mixed}
use Rattle.located_frames.proofs.locate_frame.Goals as goal
use Rattle.located_frames.proofs.locate_frame.Goals.{In-Ok-Columns}

-- columns are answered
counted : (c : In-Ok-Columns) → c.locate_from-answer.result.reply ≡ Ok (Columns c.in-Ok-Columns.field-0-0)
counted c = search rules

pub locate_from-answer-requires : goal.locate_from-answer-requires
locate_from-answer-requires c = c.requires.locatable

pub mends_uniform-requires : goal.mends_uniform-requires
mends_uniform-requires c = counted_mendable _ _ _ _ [] _ _ [] _ c.locate_from-answer.ensures _ (counted (goal.at.mends_uniform-requires c).In-Ok-Columns) no_arrays c.requires

pub returns-then-mends_uniform : goal.returns-then-mends_uniform
returns-then-mends_uniform c =
    λ a. refusal-outcome _ _ _ c.refuse.ensures c.shaped.ensures
    ∙ counted-uniform _ _ _ _ _ _ _ _ _ c.locate_from-answer.ensures _ (counted (goal.at.returns-then-mends_uniform c).In-Ok-Columns) a _
    c.mends_uniform.ensures c.if-mends_uniform.true

pub returns-else-mends_uniform : goal.returns-else-mends_uniform
returns-else-mends_uniform c =
    λ a. counted_mixed _ _ _ _ _ _ _ _ _ c.locate_from-answer.ensures _ (counted (goal.at.returns-else-mends_uniform c).In-Ok-Columns) a _
    c.mends_uniform.ensures c.if-mends_uniform.false

pub returns-in-Ok-Unfinished : goal.returns-in-Ok-Unfinished
returns-in-Ok-Unfinished c =
    let going : c.locate_from-answer.result.reply ≡ Ok Unfinished = search rules in
    λ a. not-counted _ _ _ _ _ _ _ _ _ c.locate_from-answer.ensures a _ going (λ m e. never_both e)

pub returns-in-Err : goal.returns-in-Err
returns-in-Err c =
    λ a. not-counted _ _ _ _ _ _ _ _ _ c.locate_from-answer.ensures a _ c.in-Err.is (λ m e. never-columns (sym e))
