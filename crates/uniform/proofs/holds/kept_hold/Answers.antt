-- `uniform::holds::kept_hold` meets its contract.
use Rattle.std.proofs.Common.{◌≡◌, ◌∙◌, ◌↔◌, length, rules}
use mathlib.Core.Bool.{◌||◌, or_comm}
use lib.Dec.{eqb}
use Rattle.std.specs.Prelude.{IsTrue, EachIndex, slice_index}
use Rattle.columns.specs.Columns.{has}
use Rattle.lists.proofs.Tabulated.{every_ext}
use Rattle.lists.proofs.Every.{every-decides}
use Rattle.uniform.proofs.holds.kept_hold.Goals as goal

pub returns : goal.returns
returns c =
    let args = c.args in
    let cells = args.cells.now in
    let told : IsTrue c.all.result ↔ EachIndex cells (λ k. IsTrue (eqb (slice_index cells k) args.a || has args.set k)) = search rules in
    every-decides _ _ _ told ∙ every_ext (length cells) _ _ (λ k inside. or_comm (eqb (slice_index cells k) args.a) (has args.set k))
