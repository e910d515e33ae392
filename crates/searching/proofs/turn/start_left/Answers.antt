-- `searching::turn::start_left` meets its contract.
use mathlib.Core.Path.{ap, subst⁻¹, ◌∙◌}
use Rattle.slices.specs.Synthesis.{Synthesis}
use Rattle.searching.specs.Arriving.{all_arrays, arriving}
use Rattle.searching.proofs.Turning.{Ends, start-ends}
use Rattle.searching.proofs.turn.start_left.Goals as goal

-- ---- the ways back

pub arrive-requires : goal.arrive-requires
arrive-requires c =
    let args = c.args in
    subst⁻¹ (Ends args.s args.declared.now args.sums.now) c.begin_left.ensures
    (start-ends args.s args.declared.now args.sums.now c.requires _)

pub returns : goal.returns
returns c =
    let args = c.args in
    λ f. c.arrive.ensures _ _ _ _ f
    ∙ ap (λ (y : Synthesis). arriving args.s (all_arrays args.sums.now args.taps.now args.declared.now y) f) c.begin_left.ensures
