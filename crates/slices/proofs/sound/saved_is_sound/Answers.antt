-- `saved_is_sound` answers whether what is saved for the next step is as it has to be.
use mathlib.Core.Path.{◌≡◌, refl, ap, ◌∙◌}
use Prim.Native.Nat.{ℕ, suc, ◌+◌, ◌*◌, ◌≤◌}
use native.Mathlib.Omega.{arith}
use borrow.Author.Rules.{rules}
use lib.Dec.{eqb}
use lib.ListN.{length, get_or}
use Rattle.lists.specs.Tabulate.{every}
use Rattle.slices.specs.Synthesis.{saved_sound}
use Rattle.sequences.proofs.Part.{every_part}
use Rattle.slices.proofs.Tests.{counts_say}
use Rattle.slices.proofs.sound.saved_is_sound.Goals as goal

pub prove-unreachable-requires : goal.prove-unreachable-requires
prove-unreachable-requires c = let step = ((counts_say 8 _).0 c.requires).step in omega (arith, c.from-h.ensures)

pub overflow_sub-counts : goal.overflow_sub-counts
overflow_sub-counts c = let counts = (counts_say 8 _).0 c.requires in rw c.from-h.ensures (counts.shorter _ counts.step)

pub slice_bounds-all_zero-end : goal.slice_bounds-all_zero-end
slice_bounds-all_zero-end c =
    let counts = (counts_say 8 _).0 c.requires in
    let few = counts.few in
    let round = counts.round in
    grind arith

pub returns-then-are_inverse : goal.returns-then-are_inverse
unfolding saved_sound
returns-then-are_inverse c =
    let h = get_or c.args.counts.now 2 0 in
    let saved = c.args.saved.now in
    let counts = (counts_say 8 _).0 c.requires in
    let few = counts.few in
    let round = counts.round in
    let size : c.from.result ≡ get_or c.args.sizes.now h 0 = c.from.ensures ∙ ap (λ (k : ℕ). get_or c.args.sizes.now k 0) c.from-h.ensures in
    let end : ℕ = c.from-h.result * 144 + c.from.result + 1 in
    let room : end + 8 ≤ length saved = grind arith in
    let zeros : c.all_zero.result ≡ every 8 (λ i. eqb (get_or saved (h * 144 + suc (get_or c.args.sizes.now h 0) + i) 0) 0) =
    c.all_zero.ensures ∙ every_part (λ v. eqb v 0) saved end 8 refl room
    ∙ ap (λ (e : ℕ). every 8 (λ i. eqb (get_or saved (e + i) 0) 0)) (omega (arith, c.from-h.ensures, size))
    in
    search rules
