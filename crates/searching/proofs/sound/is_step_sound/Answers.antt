-- `searching::sound::is_step_sound` meets its contract.
use mathlib.Core.Path.{◌≡◌, sym, ap, ◌∙◌}
use mathlib.Core.Bool.{true, not}
use Rattle.frame.proofs.Shapes.{shape-ranges}
use Rattle.job.specs.Job.{end_sound, step_sound}
use Rattle.slices.specs.Synthesis.{Synthesis, synthesis, synthesis_sound}
use Rattle.slices.proofs.Answers.{fails, passes, suffices, remains}
use Rattle.slices.proofs.Stepping.{rounds-left, steps-left}
use Rattle.searching.proofs.sound.is_step_sound.Goals as goal
use Rattle.searching.proofs.sound.is_step_sound.Goals.{Then-is_sound, Start}

-- what the arrays hold
abbrev held : Start → Synthesis
held c =
    let a = c.args in
    synthesis a.counts.now a.lengths.now a.symbols.now a.places.now a.sizes.now a.discs.now a.quotients.now a.register.now
    a.saved.now

pub is_sound-requires : goal.is_sound-requires
is_sound-requires c = (shape-ranges _ c.requires).rows-most

pub returns-else-is_sound : goal.returns-else-is_sound
unfolding step_sound
returns-else-is_sound c = λ taps. c.if-is_sound.false ∙ fails _ _ (sym c.is_sound.ensures ∙ c.if-is_sound.false)

sound : (c : Then-is_sound) → synthesis_sound c.args.s.rows (let a = c.args in synthesis a.counts.now a.lengths.now a.symbols.now a.places.now a.sizes.now a.discs.now a.quotients.now a.register.now a.saved.now) ≡ true
sound c = sym c.is_sound.ensures ∙ c.if-is_sound.true

pub is_last-requires : goal.is_last-requires
is_last-requires c =
    let few = (shape-ranges _ c.requires).rows-most in
    let whole = sound (goal.at.is_last-requires c).Then-is_sound in
    record {
      counts_bound = steps-left _ (held (goal.at.is_last-requires c).Start) few whole;
      counts_bound_2 = rounds-left _ (held (goal.at.is_last-requires c).Start) few whole;
    }

pub returns-then-not-is_last : goal.returns-then-not-is_last
unfolding step_sound
returns-then-not-is_last c =
    λ taps. ap not c.if-not-is_last.true ∙ passes _ _ (sound (goal.at.returns-then-not-is_last c).Then-is_sound)
    (suffices _ _ (ap not (sym c.is_last.ensures ∙ c.if-not-is_last.true)))

pub returns-else-not-is_last : goal.returns-else-not-is_last
unfolding step_sound end_sound
returns-else-not-is_last c =
    λ taps. passes _ _ (sound (goal.at.returns-else-not-is_last c).Then-is_sound)
    (remains _ _ (ap not (sym c.is_last.ensures ∙ c.if-not-is_last.false)) c.is_end_sound.ensures)
