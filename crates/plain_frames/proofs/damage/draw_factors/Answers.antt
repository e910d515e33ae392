-- `plain_frames::damage::draw_factors` meets its contract.
use native.Mathlib.Omega.{arith}
use Rattle.plain_frames.proofs.Errors.{drawn-nonzero, drawn-row, factor-put}
use Rattle.plain_frames.proofs.damage.draw_factors.Goals as goal

pub returns-then-kind-eq2 : goal.returns-then-kind-eq2
returns-then-kind-eq2 c =
    λ some few held.
    let args = c.args in
    let row = drawn-row _ args.rows some few c.remainder.ensures c.draw-h.ensures.1 in
    factor-put _ _ 1 args.factors.now row held (omega arith) (rw c.from.ensures at c.put.ensures)

pub returns : goal.returns
returns c =
    λ some few held.
    let fill = c.fill_from in
    let size = fill.ensures.1.size in
    factor-put _ 0 _ fill.new.a some (omega arith) (drawn-nonzero _ c.draw_from.ensures.1) c.put-2.ensures
