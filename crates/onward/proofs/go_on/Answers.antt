-- `onward::go_on` meets its contract.
use mathlib.Core.Path.{◌≡◌, sym, ◌∙◌}
use mathlib.Core.Bool.{true}
use Rattle.frame.proofs.Shapes.{shape-ranges}
use Rattle.frame.specs.Shape.{is_shape}
use Rattle.slices.specs.Synthesis.{Synthesis, synthesis, synthesis_sound}
use Rattle.slices.proofs.Stepping.{rounds-left, steps-left}
use Rattle.onward.proofs.GoingOn.{other-phase, no-shape, no_step, last_one, made}
use Rattle.onward.proofs.go_on.Goals as goal
use Rattle.onward.proofs.go_on.Goals.{Else-not-in_range, Else-not-is_sound, Else-not-unfinished, Start}

-- ---- what is lent

abbrev held : Start → Synthesis
held c =
    let a = c.args in
    synthesis a.counts.now a.lengths.now a.symbols.now a.places.now a.sizes.now a.discs.now a.quotients.now a.register.now
    a.saved.now

-- ---- what the tests have told

shape : (c : Else-not-in_range) → is_shape (let a = c.args in record { rows = a.rows; columns = a.columns; checks = a.checks.now; exponent = a.exponent }) ≡ true
shape c = sym c.in_range.ensures ∙ c.if-not-in_range.false

sound : (c : Else-not-is_sound) →
    synthesis_sound c.args.rows (let a = c.args in synthesis a.counts.now a.lengths.now a.symbols.now a.places.now a.sizes.now a.discs.now a.quotients.now a.register.now a.saved.now) ≡ true
sound c = sym c.is_sound.ensures ∙ c.if-not-is_sound.false

-- ---- the answers

pub returns-then-not-unfinished : goal.returns-then-not-unfinished
returns-then-not-unfinished c = other-phase _ _ _ (c.if-not-unfinished.true)

pub returns-then-not-in_range : goal.returns-then-not-in_range
returns-then-not-in_range c =
    no-shape _ _ _ c.if-not-unfinished.false (sym c.in_range.ensures ∙ c.if-not-in_range.true)

pub is_sound-requires : goal.is_sound-requires
is_sound-requires c = (shape-ranges _ (shape c)).rows-most

pub returns-then-not-is_sound : goal.returns-then-not-is_sound
returns-then-not-is_sound c =
    no_step _ _ _ c.if-not-unfinished.false (shape (goal.at.returns-then-not-is_sound c).Else-not-in_range) (sym c.is_sound.ensures ∙ c.if-not-is_sound.true)

pub is_last-requires : goal.is_last-requires
is_last-requires c =
    let few = (shape-ranges _ (shape (goal.at.is_last-requires c).Else-not-in_range)).rows-most in
    let x = held (goal.at.is_last-requires c).Start in
    record { counts_bound = steps-left _ x few (sound c); counts_bound_2 = rounds-left _ x few (sound c) }

pub returns-then-is_last : goal.returns-then-is_last
returns-then-is_last c =
    last_one _ _ _ c.if-not-unfinished.false (shape (goal.at.returns-then-is_last c).Else-not-in_range) (sound (goal.at.returns-then-is_last c).Else-not-is_sound) (sym c.is_last.ensures ∙ c.if-is_last.true)

pub advance-requires : goal.advance-requires
advance-requires c =
    record { count_bound = (shape-ranges _ (shape (goal.at.advance-requires c).Else-not-in_range)).rows-most; saved_value = sound (goal.at.advance-requires c).Else-not-is_sound }

pub returns : goal.returns
returns c =
    made _ _ _ c.if-not-unfinished.false (shape (goal.at.returns c).Else-not-in_range) (sound (goal.at.returns c).Else-not-is_sound) (sym c.is_last.ensures ∙ c.if-is_last.false) c.advance.ensures
