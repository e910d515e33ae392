-- `plain_frames::damage::damage` meets its contract.
use mathlib.Core.Path.{◌≡◌}
use native.Mathlib.Omega.{arith}
use lib.ListN.{length}
use Rattle.plain_frames.proofs.Choosing.{chosen}
use Rattle.plain_frames.proofs.Mixing.{numbered}
use Rattle.plain_frames.proofs.damage.damage.Goals as goal

pub returns : goal.returns
returns c =
    let eight = c.at_most_eight in
    let args = c.args in
    let order = c.mix.new.order in
    let size : length order ≡ 256 = omega arith in (
      _,
      chosen
          args.columns
          args.rows
          args.w
          c.draw_factors.new.factors
          _
          _
          order
          size
          (λ narrow. c.mix.ensures (omega arith) (numbered _ (omega arith) c.number.ensures))
          (rw c.from.ensures at c.part-chosen.ensures)
          (λ some few. c.draw_factors.ensures some few (omega arith))
          eight.ensures.0
          eight.ensures.2
          c.damage_columns.ensures,
    )
