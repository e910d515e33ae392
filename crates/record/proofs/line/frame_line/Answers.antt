-- `record::line::frame_line` meets its contract.
use mathlib.Core.Path.{refl, ap, ◌∙◌}
use Prim.Native.Nat.{ℕ}
use borrow.Author.Rules.{rules}
use Rattle.std.specs.Prelude.{Ok, Err}
use Rattle.job.specs.Job.{no_arrays}
use Rattle.record.specs.Line.{output_of}
use Rattle.record.specs.Record.{frame}
use Rattle.record.proofs.Frames.{few-marks, frame_refused, frame-located}
use Rattle.text.proofs.Writing.{written_as}
use Rattle.record.proofs.line.frame_line.Goals as goal

pub returns-in-Err-clause-written : goal.returns-in-Err-clause-written
returns-in-Err-clause-written c =
    let refused = frame_refused _ c.args.checks.now c.args.symbols.now _ c.empty.ensures (Err c.in-Err.why) c.in-Err.ensures _ refl in
    written_as _ _ _ _ _ _ (refused ∙ ap (λ (n : ℕ). output_of (frame n c.args.checks.now c.args.symbols.now)) c.from.ensures) c.refusal_line.ensures.written

pub reply_line-requires : goal.reply_line-requires
reply_line-requires c =
    let few = few-marks _ _ _ _ c.locate-located.result (c.locate-located.ensures no_arrays) in
    record { room = search rules; few = few.0; few-marks = few.1 }

pub returns-clause-written : goal.returns-clause-written
returns-clause-written c =
    let same =
    frame-located _ c.args.checks.now c.args.symbols.now _ c.empty.ensures (Ok c.in-Ok.head) c.in-Ok.ensures c.locate-located.result _ _ refl
    (c.locate-located.ensures no_arrays) in
    written_as _ _ _ _ _ _ (same ∙ ap (λ (n : ℕ). output_of (frame n c.args.checks.now c.args.symbols.now)) c.from.ensures) c.reply_line.ensures.written
