-- `plain_frames::frames::row` meets its contract.
use mathlib.Core.Path.{sym, ap₂, ◌∙◌}
use Prim.Native.Nat.{ℕ}
use native.Mathlib.Omega.{arith}
use Rattle.plain_frames.proofs.Rows.{row_in, row_out}
use Rattle.plain.specs.Plain.{part}
use Rattle.plain_frames.proofs.frames.row.Goals as goal

pub returns-then-h-lt8 : goal.returns-then-h-lt8
returns-then-h-lt8 c =
    let args = c.args in
    c.part.ensures ∙ ap₂ (λ (m n : ℕ). part args.frame.now m n) c.product.ensures.0 c.from.ensures
    ∙ sym (row_in args.frame.now args.columns args.h (omega arith))

pub returns : goal.returns
returns c =
    let args = c.args in
    sym (row_out args.frame.now args.columns args.h (omega arith))
