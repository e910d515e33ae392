use Rattle.std.proofs.Common.{◌≡◌, ◌∙◌, ℕ, max, ap, arith}
use Rattle.frame.proofs.Shapes.{shape-ranges}
use Rattle.lists.proofs.Largest.{largest-none, largest-more, largest-all, every-most}
use Rattle.uniform.specs.Constant.{constant_coded}
use Rattle.uniform.proofs.constant.rows_coded.Goals as goal

pub loop-h-init : goal.loop-h-init
loop-h-init g c = record { few = omega arith; largest = λ m same. largest-none _ m }

pub loop-h-preserved : goal.loop-h-preserved
loop-h-preserved g c =
    let at = c.loop-h in
    let row = c.loop-h-test.true in
    let few = c.requires.few at.h c.count.result row c.count.ensures in
    record {
      few = omega (arith, at.invariant.few);
      largest = λ m same.
          let counted = same at.h c.count.result row c.count.ensures in
          largest-more _ m at.h at.most (at.invariant.largest m same) row _ (omega arith);
    }

pub constant_coded-requires : goal.constant_coded-requires
constant_coded-requires g c =
    let ranges = shape-ranges _ c.requires.shape in
    record { exponent = ranges.exponent-most; narrow = ranges.columns-most; symbol = c.requires.symbol; few = c.loop-h.invariant.few }

pub returns : goal.returns
returns g c = λ m same.
    let s = c.args.s in
    c.constant_coded.ensures
    ∙ ap (constant_coded s.exponent s.columns c.args.a) (largest-all _ m _ _ (c.loop-h.invariant.largest m same) c.loop-h-test.false)
    ∙ every-most _ _ m
