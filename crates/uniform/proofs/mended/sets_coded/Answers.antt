-- `uniform::mended::sets_coded` meets its contract.
use Rattle.std.proofs.Common.{◌≡◌, length, arith, rules}
use Rattle.columns.specs.Columns.{either, members}
use Rattle.frame.specs.DeclaredCells.{declared_by}
use Rattle.frame.proofs.Shapes.{shape-ranges}
use Rattle.uniform.proofs.mended.sets_coded.Goals as goal

pub rows_coded-requires : goal.rows_coded-requires
rows_coded-requires c =
    let ranges = shape-ranges _ c.requires.shape in
    record {
      shape = c.requires.shape;
      symbol = c.requires.symbol;
      counted = λ h l. search rules;
      few = λ h n l is.
          let e : n ≡ length (members (either c.args.marked (declared_by c.args.declared.now h))) = search rules in
          omega (arith, c.requires.few h l);
    }

pub returns : goal.returns
returns c =
    c.rows_coded.ensures (λ h. length (members (either c.args.marked (declared_by c.args.declared.now h)))) (λ h n l is. search rules)
