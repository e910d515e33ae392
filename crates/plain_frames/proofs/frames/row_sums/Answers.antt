use mathlib.Core.Path.{◌≡◌, ap, ◌∙◌}
use Prim.Native.Nat.{ℕ, suc, ◌+◌, ◌-◌}
use native.Mathlib.Omega.{arith}
use Rattle.plain.proofs.Writing.{wrote_none, wrote-put, wrote-all}
use Rattle.plain_frames.specs.Frames.{check_sum}
use Rattle.plain_frames.proofs.frames.row_sums.Goals as goal

pub loop-j-init : goal.loop-j-init
loop-j-init c = (omega arith, wrote-all _ _ _ (wrote_none _ _ _) (omega arith) (omega arith))

pub loop-j-preserved : goal.loop-j-preserved
loop-j-preserved c =
    let place = c.args.at in
    let own : c.loop-j.j + 1 ≡ suc (place + c.loop-j.j - place) = omega arith in (
      omega arith,
      wrote-all
          _
          (place + c.loop-j.j + 1)
          _
          (wrote-put
          _
          (place + c.loop-j.j)
          _
          c.loop-j.invariant.1
          (omega arith)
          (rw c.from.ensures at c.put_at.ensures)
          (c.check_sum.ensures ∙ ap (λ (k : ℕ). check_sum c.args.exponent c.args.row.now k) own))
          (omega arith)
          (omega arith),
    )

pub returns : goal.returns
returns c = wrote-all _ _ _ c.loop-j.invariant.1 (omega arith) (omega arith)
