use mathlib.Core.Path.{◌≡◌, ap, ◌∙◌}
use mathlib.Core.Bool.{true, false}
use Prim.Native.Nat.{ℕ, ◌-◌, ◌%◌}
use native.Mathlib.Omega.{arith}
use lib.ListN.{get_or}
use Rattle.columns.specs.Columns.{marking}
use Rattle.decoding.specs.Locating.{is_root}
use Rattle.search.proofs.Trials.{room, size_powers, factors, root-here, other-here, sound-words}
use Rattle.search.proofs.Trials.{block-other, block-root, block-ends}
use Rattle.search.proofs.blocks.try_block.Goals as goal
use Rattle.search.proofs.blocks.try_block.Goals.{In-loop-i, then-v-i-eq0+else-left-eq0, else-v-i-eq0}

-- whether the column is a root
abbrev value-here : In-loop-i → ℕ
value-here c = get_or c.values-v.result (c.loop-i.i - c.args.from) 0 % 257

root : (c : In-loop-i) → value-here c ≡ 0 → is_root c.args.taps.now c.loop-i.i ≡ true
root c =
    let at = c.loop-i in
    root-here _ _ _ _ _ _ c.requires c.values-v.result c.values-v.ensures _ at.i at.left _ at.invariant c.loop-i-test.true

other : (c : In-loop-i) → (value-here c ≡ 0 → ⊥) → is_root c.args.taps.now c.loop-i.i ≡ false
other c =
    let at = c.loop-i in
    other-here _ _ _ _ _ _ c.requires c.values-v.result c.values-v.ensures _ at.i at.left _ at.invariant c.loop-i-test.true

pub values-v-requires : goal.values-v-requires
values-v-requires c = factors _ _ _ _ _ _ c.requires

pub mark-requires : goal.mark-requires
mark-requires c =
    let at = c.loop-i in
    (omega (arith, c.loop-i-test.true, at.invariant.block.last, c.requires.few), sound-words _ _ _ _ at.i at.left _ at.invariant)

pub returns-then-left-eq0 : goal.returns-then-left-eq0
returns-then-left-eq0 c =
    let at = c.loop-i in
    block-ends _ _ _ _ at.i at.left _ at.invariant c.loop-i-test.true (root (goal.at.returns-then-left-eq0 c).In-loop-i c.if-v-i-eq0.true) _ c.mark.ensures
    c.if-left-eq0.true

pub loop-i-preserved : goal.loop-i-preserved
loop-i-preserved c =
    let at = c.loop-i in
    let t = c.loop-i-test.true in
    let inside = (goal.at.loop-i-preserved c).In-loop-i in
    elim c.if-v-i-eq0.branch [
      | then-v-i-eq0+else-left-eq0 w ↦
          let more = w.if-left-eq0.false in
          block-root _ _ _ _ at.i at.left _ at.invariant t (root inside w.if-v-i-eq0.true) _ (ap marking w.words-is ∙ w.mark.ensures) _ (omega arith)
          w.left-is
      | else-v-i-eq0 w ↦ block-other _ _ _ _ at.i at.left _ at.invariant t _ _ (other inside w.if-v-i-eq0.false) w.words-is w.left-is
    ]

pub slice_bounds-values-end : goal.slice_bounds-values-end
slice_bounds-values-end c = omega (arith, room _ _ _ _ _ _ c.requires, size_powers _ _ _ _ _ _ c.requires)
