-- `counts_are_sound` answers whether the numbers are in their ranges.
use mathlib.Core.Path.{◌≡◌, ap, ◌∙◌}
use Prim.Native.Nat.{ℕ}
use borrow.Author.Rules.{rules}
use lib.Dec.{leb}
use lib.ListN.{length, get_or}
use Rattle.lists.specs.Tabulate.{every}
use Rattle.slices.specs.Synthesis.{counts_sound}
use Rattle.slices.proofs.sound.counts_are_sound.Goals as goal

pub returns-then-counts-n : goal.returns-then-counts-n
unfolding counts_sound
returns-then-counts-n c =
    let width : length c.args.lengths.now ≡ 8 = search rules in
    let none_longer : c.every.result ≡ every 8 (λ h. leb (get_or c.args.lengths.now h 0) (get_or c.args.counts.now 0 0)) =
    c.every.ensures (λ v. leb v (get_or c.args.counts.now 0 0)) (λ v r b p. search rules)
    ∙ ap (λ (n : ℕ). every n (λ h. leb (get_or c.args.lengths.now h 0) (get_or c.args.counts.now 0 0))) width
    in
    search rules
