-- `is_sound` answers whether a step can be made of the arrays.
use mathlib.Core.Path.{◌≡◌, sym, ◌∙◌}
use mathlib.Core.Bool.{true, true≢false}
use mathlib.Core.List.{[]}
use native.Mathlib.Omega.{arith}
use Rattle.slices.specs.Synthesis.{synthesis, counts_sound, saved_sound, taps_sound, symbols_sound, synthesis_sound}
use Rattle.slices.proofs.Answers.{fails, passes, counts-eight}
use Rattle.slices.proofs.Tests.{counts_say}
use Rattle.slices.proofs.sound.is_sound.Goals as goal
use Rattle.slices.proofs.sound.is_sound.Goals.{Else-not-counts_are_sound, then-saved_is_sound, else-saved_is_sound}

counted : (c : Else-not-counts_are_sound) →
    counts_sound c.args.count (synthesis c.args.counts.now c.args.lengths.now [] [] [] [] [] [] []) ≡ true
counted c = sym c.counts_are_sound.ensures ∙ c.if-not-counts_are_sound.false

pub returns-then-not-counts_are_sound : goal.returns-then-not-counts_are_sound
unfolding synthesis_sound counts_sound
returns-then-not-counts_are_sound c = fails _ _ (sym c.counts_are_sound.ensures ∙ c.if-not-counts_are_sound.true)

pub saved_is_sound-requires : goal.saved_is_sound-requires
saved_is_sound-requires c = counts-eight _ _ c.requires (counted c)

pub taps_are_sound-requires : goal.taps_are_sound-requires
taps_are_sound-requires c =
    let counts = (counts_say _ _).0 (counted (goal.at.taps_are_sound-requires c).Else-not-counts_are_sound) in
    omega (arith, counts.few, counts.round, counts.grown)

pub symbols_are_sound-requires : goal.symbols_are_sound-requires
symbols_are_sound-requires c = counts-eight _ _ c.requires (counted (goal.at.symbols_are_sound-requires c).Else-not-counts_are_sound)

pub returns-then-taps_are_sound : goal.returns-then-taps_are_sound
unfolding synthesis_sound counts_sound saved_sound taps_sound symbols_sound
returns-then-taps_are_sound c =
    passes _ _ (counted (goal.at.returns-then-taps_are_sound c).Else-not-counts_are_sound)
    (elim c.if-saved_is_sound.branch [
      | then-saved_is_sound w ↦
          passes _ _ (sym c.saved_is_sound.ensures ∙ w.if-saved_is_sound.true)
          (passes _ _ (sym w.taps_are_sound.ensures ∙ sym w.value-is ∙ c.if-taps_are_sound.true) c.symbols_are_sound.ensures)
      | else-saved_is_sound w ↦ absurd (true≢false (sym c.if-taps_are_sound.true ∙ w.value-is ∙ w.if-saved_is_sound.false))
    ])

pub returns-else-taps_are_sound : goal.returns-else-taps_are_sound
unfolding synthesis_sound counts_sound saved_sound taps_sound
returns-else-taps_are_sound c =
    c.if-taps_are_sound.false
    ∙ passes _ _ (counted (goal.at.returns-else-taps_are_sound c).Else-not-counts_are_sound)
    (elim c.if-saved_is_sound.branch [
      | then-saved_is_sound w ↦
          passes _ _ (sym c.saved_is_sound.ensures ∙ w.if-saved_is_sound.true)
          (fails _ _ (sym w.taps_are_sound.ensures ∙ sym w.value-is ∙ c.if-taps_are_sound.false))
      | else-saved_is_sound w ↦ fails _ _ (sym c.saved_is_sound.ensures ∙ w.if-saved_is_sound.false)
    ])
