use mathlib.Core.Path.{◌≡◌, ap, ◌∙◌}
use Prim.Native.Nat.{ℕ, ◌+◌, ◌-◌}
use native.Mathlib.Omega.{arith}
use lib.ListN.{length}
use borrow.Rule.Slice.PartMut.{mid_len}
use Rattle.columns.specs.Columns.{members}
use Rattle.frame.specs.DeclaredCells.{declared_by, erasures}
use Rattle.frame.proofs.HeldParts.{part-below}
use Rattle.lists.proofs.Appending.{appended-length}
use Rattle.remaining.proofs.RowsLeft.{left-none, left-more, left-all}
use Rattle.remaining.proofs.rows.all_remaining.Goals as goal
use Rattle.remaining.proofs.rows.all_remaining.Goals.{After-size}

-- as many cells of the row are declared
sized : (c : After-size) →
    c.size.result ≡ erasures (declared_by c.args.declared.now) c.loop-h.h
sized c = c.size.ensures ∙ ap (λ J. length (members J)) c.cells_of-cells.ensures

pub loop-h-init : goal.loop-h-init
loop-h-init c = left-none _ _ _ c.requires.shape c.requires.declared

pub overflow_sub-left : goal.overflow_sub-left
overflow_sub-left c = omega (arith, sized c)

pub slice_bounds-symbols-end : goal.slice_bounds-symbols-end
slice_bounds-symbols-end c =
    let size = appended-length _ _ _ _ _ c.loop-h.invariant.appended in
    omega (arith, sized (goal.at.slice_bounds-symbols-end c).After-size)

pub remaining-requires : goal.remaining-requires
remaining-requires c =
    let checks = c.from-checks.ensures in
    let taken = sized (goal.at.remaining-requires c).After-size in
    let all : length c.args.sums.now ≡ 512 = omega arith in
    let from = c.loop-h.at in
    let to : ℕ = from + c.from-checks.result in
    let end : ℕ = c.loop-h.count + (c.from-checks.result - c.size.result) in
    let size = appended-length _ _ _ _ _ c.loop-h.invariant.appended in
    let part = mid_len from to c.args.sums.now (omega arith) in
    let left = mid_len c.loop-h.count end c.loop-h.symbols (omega arith) in
    let cells = c.size.ensures in
    record {
      powers_known = c.powers-powers.ensures;
      few = omega arith;
      sums-few = omega arith;
      sums-small = part-below c.args.sums.now c.requires.sums-small from (to - from);
      places = omega arith;
    }

pub loop-h-preserved : goal.loop-h-preserved
loop-h-preserved c =
    let fits = sized (goal.at.loop-h-preserved c).After-size in
    left-more _ _ _ c.requires.shape (omega arith) _ _ _ _ _ c.loop-h.invariant c.loop-h-test.true c.requires.declared c.from-checks.result
    c.size.result c.cells_of-cells.result _ c.from-checks.ensures c.cells_of-cells.ensures c.size.ensures (omega arith) c.remaining.ensures

pub returns : goal.returns
returns c =
    left-all _ _ _ c.requires.shape (omega arith) _ _ _ _ _ c.loop-h.invariant c.loop-h-test.false
