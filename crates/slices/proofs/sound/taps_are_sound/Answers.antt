-- `taps_are_sound` answers whether the register is one, with zeros after it.
use mathlib.Core.Path.{◌≡◌, refl, sym, ap, ◌∙◌}
use mathlib.Core.Bool.{true≢false}
use Prim.Native.Nat.{ℕ, suc, ◌+◌}
use native.Mathlib.Omega.{arith}
use borrow.Author.Rules.{rules}
use borrow.Author.Tests.{eq-eqb, ne_eqb}
use lib.Dec.{ltb, eqb}
use lib.ListN.{get_or}
use Rattle.lists.specs.Tabulate.{every}
use Rattle.slices.specs.Synthesis.{taps_sound}
use Rattle.slices.proofs.Answers.{fails, passes}
use Rattle.sequences.proofs.Part.{every_part}
use Rattle.slices.proofs.sound.taps_are_sound.Goals as goal
use Rattle.slices.proofs.sound.taps_are_sound.Goals.{then-taps-eq1, else-taps-eq1}

pub returns-then-every : goal.returns-then-every
unfolding taps_sound
returns-then-every c =
    let taps = c.args.taps.now in
    let zeros : c.all_zero.result ≡ every 8 (λ i. eqb (get_or taps (suc (get_or c.args.counts.now 4 0) + i) 0) 0) =
    c.all_zero.ensures ∙ every_part (λ v. eqb v 0) taps (c.from-end.result + 1) 8 refl (omega (arith, c.requires, c.from-end.ensures, c.told-taps))
    ∙ ap (λ (e : ℕ). every 8 (λ i. eqb (get_or taps (e + i) 0) 0)) (omega (arith, c.from-end.ensures))
    in
    elim c.if-taps-eq1.branch [
      | then-taps-eq1 w ↦
          let residues = w.every.ensures (λ v. ltb v 257) (λ v r b p. search rules) ∙ ap (λ (n : ℕ). every n (λ i. ltb (get_or taps i 0) 257)) c.told-taps in
          passes _ _ (eq-eqb _ _ w.if-taps-eq1.true) (passes _ _ (sym residues ∙ sym w.value-is ∙ c.if-every.true) zeros)
      | else-taps-eq1 w ↦ absurd (true≢false (sym c.if-every.true ∙ w.value-is ∙ ne_eqb _ _ w.if-taps-eq1.false))
    ]

pub returns-else-every : goal.returns-else-every
unfolding taps_sound
returns-else-every c =
    let taps = c.args.taps.now in
    elim c.if-taps-eq1.branch [
      | then-taps-eq1 w ↦
          let residues = w.every.ensures (λ v. ltb v 257) (λ v r b p. search rules) ∙ ap (λ (n : ℕ). every n (λ i. ltb (get_or taps i 0) 257)) c.told-taps in
          c.if-every.false ∙ passes _ _ (eq-eqb _ _ w.if-taps-eq1.true) (fails _ _ (sym residues ∙ sym w.value-is ∙ c.if-every.false))
      | else-taps-eq1 w ↦ c.if-every.false ∙ fails _ _ (ne_eqb _ _ w.if-taps-eq1.false)
    ]
