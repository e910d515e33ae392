-- `uniform::holds::all_hold` meets its contract.
use Rattle.std.proofs.Common.{◌↔◌, rules}
use lib.Dec.{eqb}
use Rattle.std.specs.Prelude.{IsTrue, EachIndex, slice_index}
use Rattle.lists.proofs.Every.{every-decides}
use Rattle.uniform.proofs.holds.all_hold.Goals as goal

pub returns : goal.returns
returns c =
    let cells = c.args.cells.now in
    let told : IsTrue c.all.result ↔ EachIndex cells (λ k. IsTrue (eqb (slice_index cells k) c.args.a)) = search rules in
    every-decides _ _ _ told
