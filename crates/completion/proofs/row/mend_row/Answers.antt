use mathlib.Core.Path.{◌≡◌, refl, ap, ◌∙◌}
use mathlib.Core.List.{◌∷◌, [], ◌++◌}
use Prim.Native.Nat.{ℕ, ◌+◌, ◌%◌, ◌<◌}
use native.Mathlib.Omega.{arith}
use lib.ListN.{length, length-append, get_or}
use Rattle.std.proofs.lemmas.Iterator.Consumers.{YieldsList-end, YieldsList-from_enumerate, YieldsList-from_first, YieldsList-turn}
use Rattle.columns.specs.Columns.{members}
use Rattle.columns.specs.Rising.{to_come}
use Rattle.columns.proofs.Walk.{next_at}
use Rattle.columns.proofs.MembersGiven.{Turn, numbered, all_numbered, walk-turn, walk-over}
use Rattle.completion.proofs.SymbolsAdded.{Adding, readable-set, adding_none, adding_more, adding_all, same_size}
use Rattle.completion.proofs.row.mend_row.Goals as goal
use Rattle.completion.proofs.row.mend_row.Goals.{In-Some}

turn : (c : In-Some) → Turn c.args.set (length c.loop-k.yielded) c.in-Some.k c.in-Some.i
turn c =
    numbered _ _ _ _ (YieldsList-turn (YieldsList-from_enumerate (YieldsList-from_first (λ x. x) to_come (members c.args.set) cc) cc)
    c.loop-k.yielded _ c.loop-k.yielded_by _ _ (c.in-Some.k, c.in-Some.i) c.in-Some.is c.next.ensures.steps)

-- the cell stands in the row
cell : (c : In-Some) → c.in-Some.i < length c.loop-k.row
cell c =
    let (i, a) = c.loop-k.invariant in
    let size = same_size _ _ _ _ _ i _ a in
    let inside = c.requires.1.below c.in-Some.i (turn c).marked in
    omega arith

pub symbols-symbols-requires : goal.symbols-symbols-requires
symbols-symbols-requires c = (c.requires.0, readable-set _ _ _ _ c.requires.1)

pub loop-k-init : goal.loop-k-init
loop-k-init c = (next_at c.args.set 0, adding_none _ _ _ _ _ refl)

pub offset_bounds-row-i : goal.offset_bounds-row-i
offset_bounds-row-i c = omega (arith, (turn (goal.at.offset_bounds-row-i c).In-Some).below)

pub bounds-row-i : goal.bounds-row-i
bounds-row-i c = cell (goal.at.bounds-row-i c).In-Some

pub offset_bounds-row-i-in-loop-k : goal.offset_bounds-row-i-in-loop-k
offset_bounds-row-i-in-loop-k c = omega (arith, (turn (goal.at.offset_bounds-row-i-in-loop-k c).In-Some).below)

pub bounds-row-i-in-loop-k : goal.bounds-row-i-in-loop-k
bounds-row-i-in-loop-k c = cell (goal.at.bounds-row-i-in-loop-k c).In-Some

pub loop-k-preserved : goal.loop-k-preserved
loop-k-preserved c =
    let at = c.loop-k in
    let set = c.args.set in
    let column = c.in-Some.i in
    let t = turn (goal.at.loop-k-preserved c).In-Some in
    let (i, a) = at.invariant in
    let here : Adding c.args.b set c.args.sums.now c.args.row.now (length at.yielded) column at.row = rw (walk-turn set _ i a.walk _ _ t) at a in
    let more : length (at.yielded ++ ((c.in-Some.k, column) ∷ [])) ≡ length at.yielded + 1 = length-append at.yielded ((c.in-Some.k, column) ∷ []) in
    let written = c.plus.ensures ∙ ap (λ (n : ℕ). (get_or at.row column 0 + get_or c.symbols-symbols.result n 0) % 257) t.number in (
      next_at set (column + 1),
      rw more (adding_more _ _ _ _ _ _ _ here c.requires.1 t.below c.symbols-symbols.result c.symbols-symbols.ensures _ _ written refl),
    )

pub returns : goal.returns
returns c =
    let at = c.loop-k in
    let set = c.args.set in
    let (i, a) = at.invariant in
    let all = all_numbered set (length at.yielded) _
    (YieldsList-end (YieldsList-from_enumerate (YieldsList-from_first (λ x. x) to_come (members set) cc) cc)
    at.yielded _ at.yielded_by _ _ c.in-None.is c.next.ensures.steps) in
    adding_all _ _ _ _ _ i _ a c.requires.1 (walk-over set _ i a.walk all)
