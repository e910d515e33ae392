use mathlib.Core.Path.{◌≡◌, sym, ap, ◌∙◌}
use Prim.Native.Nat.{ℕ, ◌*◌}
use native.Mathlib.Omega.{arith}
use lib.Count.{ones-le}
use lib.ListN.{get_or}
use Rattle.columns.specs.Columns.{has}
use Rattle.columns.specs.Listed.{count}
use Rattle.columns.proofs.Bits.{ones-count}
use Rattle.columns.proofs.Listing.{count-zero, count-le, length-listed}
use Rattle.columns.proofs.Words.{count_word}
use Rattle.columns.proofs.size.Goals as goal

pub loop-word-init : goal.loop-word-init
loop-word-init c = sym (count-zero (has c.args.c))

pub overflow_add-marked : goal.overflow_add-marked
overflow_add-marked c =
    let m = c.loop-word in
    let few = ones-le 64 _ c.loop-word-test.element_fits.fits in
    record { fits = omega (arith, count-le (64 * m.word-index) (has c.args.c), few) }

pub loop-word-preserved : goal.loop-word-preserved
loop-word-preserved c =
    let i = c.loop-word.word-index in
    let word = get_or c.args.c.words i 0 in
    omega (arith, c.loop-word.invariant, count_word c.args.c i, ones-count 64 word c.loop-word-test.element_fits.fits)

pub returns : goal.returns
returns c =
    c.loop-word.invariant ∙ ap (λ (n : ℕ). count n (has c.args.c)) (let e : 64 * c.loop-word.word-index ≡ 256 = omega arith in e)
    ∙ sym (length-listed 256 (has c.args.c))
