use mathlib.Core.Path.{◌≡◌, refl}
use mathlib.Core.List.{◌∷◌, [], ◌++◌}
use Prim.Native.Nat.{◌+◌, ◌≤◌, ◌<◌}
use native.Mathlib.Omega.{arith}
use borrow.Rule.Slice.PartMut.{mid_len}
use lib.ListN.{length, length-append}
use Rattle.std.proofs.lemmas.Iterator.Consumers.{YieldsList-end, YieldsList-from_first, YieldsList-turn}
use Rattle.columns.specs.Columns.{members}
use Rattle.columns.specs.Rising.{to_come}
use Rattle.columns.proofs.Walk.{Walk, next_at}
use Rattle.columns.proofs.MembersGiven.{Turn, given, walk-turn, walk-over}
use Rattle.weights.proofs.ColumnWeights.{Weighed, weighed-column}
use Rattle.completion.proofs.ColumnMending.{still-lent}
use Rattle.completion.proofs.MendableFrames.{MendableRows, held_mendable}
use Rattle.completion.proofs.MendedFrame.{FrameMending, mending_none, mending_more, mending_all}
use Rattle.completion.proofs.mend.mend.Goals as goal
use Rattle.completion.proofs.mend.mend.Goals.{After-size-m, After-weigh, In-Some, Start}

rows_of : (c : Start) → MendableRows c.args.s c.args.set c.args.sums.now c.args.frame.now
rows_of c = held_mendable _ _ _ _ c.requires

few : (c : After-size-m) → c.size-m.result ≤ 64
few c = omega (arith, c.size-m.ensures, (held_mendable _ _ _ _ c.requires).few)

turn : (c : In-Some) → let d = length c.loop-i.yielded in Turn c.args.set d d c.in-Some.i
turn c =
    given _ _ _ (YieldsList-turn (YieldsList-from_first (λ x. x) to_come (members c.args.set) cc)
    c.loop-i.yielded _ c.loop-i.yielded_by _ _ c.in-Some.i c.in-Some.is c.next.ensures.steps)

-- the walk over the set stands at this turn's column
stands : (c : In-Some) → FrameMending c.args.set c.args.s c.args.sums.now c.args.frame.now (length c.loop-i.yielded) c.in-Some.i c.loop-i.frame
stands c =
    let (i, size, mending) = c.loop-i.invariant in
    rw (walk-turn c.args.set _ i mending.walk _ _ (turn c)) at mending

pub locator_polynomial-f-requires : goal.locator_polynomial-f-requires
locator_polynomial-f-requires c =
    (c.powers-powers.ensures, omega (arith, few (goal.at.locator_polynomial-f-requires c).After-size-m, c.size-m.ensures))

pub loop-i-init : goal.loop-i-init
loop-i-init c = (next_at c.args.set 0, omega arith, mending_none _ _ _ _ c.requires.whole _ refl)

pub slice_bounds-coefficients-end : goal.slice_bounds-coefficients-end
slice_bounds-coefficients-end c = omega (arith, few (goal.at.slice_bounds-coefficients-end c).After-size-m)

pub weigh-requires : goal.weigh-requires
weigh-requires c =
    let small = few (goal.at.weigh-requires c).After-size-m in
    let part = mid_len 0 c.size-m.result c.loop-i.coefficients (let s = c.loop-i.invariant.1 in omega arith) in
    let t = turn (goal.at.weigh-requires c).In-Some in
    let member = t.inside in
    let count = c.size-m.ensures in
    record {
      powers_known = c.powers-powers.ensures;
      exponent = (rows_of (goal.at.weigh-requires c).Start).exponent;
      column = t.below;
      some = omega arith;
      few = omega arith;
    }

-- the coefficients that are lent on
weighed : (c : After-weigh) →
    let args = c.args in
    Walk args.set (length c.loop-i.yielded) c.in-Some.i → c.in-Some.i < 256
    → Weighed args.s.exponent args.set c.in-Some.i c.size-m.result c.loop-i.coefficients c.weigh.new.row
weighed c walk below =
    let named = c.locator_polynomial-f in
    weighed-column _ _ _ c.in-Some.i walk below named.result named.ensures c.size-m.result
    c.loop-i.coefficients _ c.size-m.ensures (omega (arith, c.size-m.ensures, (held_mendable _ _ _ _ c.requires).few)) c.loop-i.invariant.1 c.weigh.ensures

pub mend_column-requires : goal.mend_column-requires
mend_column-requires c =
    let asked = c.requires in
    let at = stands (goal.at.mend_column-requires c).In-Some in
    let t = turn (goal.at.mend_column-requires c).In-Some in
    let m = (weighed (goal.at.mend_column-requires c).After-weigh at.walk t.below).count in
    record {
      lent = still-lent _ _ _ _ (rows_of (goal.at.mend_column-requires c).Start).lent at.size;
      inside = asked.below c.in-Some.i t.marked;
      reach = λ h l. let e = asked.reach h l in omega arith;
    }

pub loop-i-preserved : goal.loop-i-preserved
loop-i-preserved c =
    let set = c.args.set in
    let column = c.in-Some.i in
    let at = stands (goal.at.loop-i-preserved c).In-Some in
    let t = turn (goal.at.loop-i-preserved c).In-Some in
    let w = weighed (goal.at.loop-i-preserved c).After-weigh at.walk t.below in
    let d = length c.loop-i.yielded in
    let more : length (c.loop-i.yielded ++ (column ∷ [])) ≡ d + 1 = length-append c.loop-i.yielded (column ∷ []) in (
      next_at set (column + 1),
      w.long,
      rw more (mending_more _ _ _ _ c.requires.whole d column c.loop-i.frame at _ _ _ t.below refl w.lent c.mend_column.ensures),
    )

pub returns : goal.returns
returns c =
    let asked = c.requires in
    let set = c.args.set in
    let rows = rows_of (goal.at.returns c).Start in
    let (i, size, mending) = c.loop-i.invariant in
    let all = YieldsList-end (YieldsList-from_first (λ x. x) to_come (members set) cc)
    c.loop-i.yielded _ c.loop-i.yielded_by _ _ c.in-None.is c.next.ensures.steps in
    mending_all _ _ _ _ asked.whole rows.lent.narrow asked.small rows.held asked.below asked.reach _ i _ mending
    (walk-over set _ i mending.walk all.1)
