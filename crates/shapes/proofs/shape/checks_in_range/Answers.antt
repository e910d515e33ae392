-- `shapes::shape::checks_in_range` meets its contract.
use Rattle.std.proofs.Common.{◌↔◌, rules, take}
use Rattle.std.specs.Prelude.{IsTrue, EachIndex, slice_index}
use Rattle.frame.specs.Shape.{checks_in_range}
use Rattle.frame.proofs.ShapeTests.{count_test}
use Rattle.lists.proofs.Every.{every-front}
use Rattle.shapes.proofs.shape.checks_in_range.Goals as goal

pub returns : goal.returns
unfolding checks_in_range
returns c =
    let counts = take c.args.rows c.args.checks.now in
    let told : IsTrue c.all.result ↔ EachIndex counts (λ k. IsTrue (count_test c.args.columns (slice_index counts k))) = search rules in
    every-front (count_test c.args.columns) c.args.rows c.args.checks.now c.requires _ told
