-- `division::rows::encode_row` meets its contract.
use Rattle.std.proofs.Common.{rules}
use mathlib.Core.Path.{◌≡◌}
use native.Mathlib.Omega.{arith}
use lib.ListN.{length}
use Rattle.frame.proofs.Remainder.{length_part, part_small, completed-by_remainder}
use Rattle.division.proofs.rows.encode_row.Goals as goal

pub divide-requires : goal.divide-requires
divide-requires c =
    let room : length c.data_cells-cells.result ≡ 256 = omega arith in
    let m = c.args.m in
    let row = c.args.row.now in
    let cells = c.data_cells-cells.result in
    let size = length_part m row cells c.requires.reach c.requires.narrow room c.data_cells-cells.ensures in
    record {
      divisor = c.requires.divisor;
      reach = omega (arith, size);
      narrow = omega (arith, size);
      small = part_small m row cells c.requires.reach c.requires.narrow room c.data_cells-cells.ensures (search rules);
    }

pub returns : goal.returns
returns c =
    λ b of.
    completed-by_remainder c.args.m c.args.row.now c.data_cells-cells.result c.requires.reach c.requires.narrow (omega arith)
    c.data_cells-cells.ensures b c.divide.new.cells _ c.divide.auto.cells
    c.put_negatives.ensures c.requires.small (c.divide.ensures b of)
