-- `uniform::encoded::checks_coded` meets its contract.
use Rattle.std.proofs.Common.{◌≡◌, arith, rules}
use Rattle.frame.specs.Shape.{checks_of}
use Rattle.frame.proofs.Shapes.{shape-ranges}
use Rattle.uniform.proofs.encoded.checks_coded.Goals as goal

pub rows_coded-requires : goal.rows_coded-requires
rows_coded-requires c =
    let ranges = shape-ranges _ c.requires.0 in
    record {
      shape = c.requires.0;
      symbol = c.requires.1;
      counted = λ h l. search rules;
      few = λ h n l is. let e : n ≡ checks_of c.args.s h = search rules in omega (arith, (ranges.checks h l).most);
    }

pub returns : goal.returns
returns c = c.rows_coded.ensures (checks_of c.args.s) (λ h n l is. search rules)
