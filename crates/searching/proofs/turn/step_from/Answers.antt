-- `searching::turn::step_from` meets its contract.
use mathlib.Core.Path.{ap, subst⁻¹, ◌∙◌}
use borrow.Author.Rules.{rules}
use Rattle.frame.proofs.Shapes.{shape-ranges}
use Rattle.slices.specs.Synthesis.{Synthesis}
use Rattle.searching.specs.Arriving.{all_arrays, arriving}
use Rattle.searching.proofs.Turning.{Ends, step-sound, step-ends}
use Rattle.searching.proofs.turn.step_from.Goals as goal

-- ---- the ways back

pub advance-requires : goal.advance-requires
advance-requires c =
    record { count_bound = (shape-ranges _ c.requires.shape).rows-most; saved_value = step-sound _ _ _ _ _ c.requires }

pub arrive-requires : goal.arrive-requires
arrive-requires c =
    let args = c.args in
    subst⁻¹ (Ends args.s args.declared.now args.sums.now) c.advance.ensures (step-ends _ _ _ _ _ c.requires (search rules))

pub returns : goal.returns
returns c =
    let args = c.args in
    λ f. c.arrive.ensures _ _ _ _ f
    ∙ ap (λ (y : Synthesis). arriving args.s (all_arrays args.sums.now args.taps.now args.declared.now y) f) c.advance.ensures
