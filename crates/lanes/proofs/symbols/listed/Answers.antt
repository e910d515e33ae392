use mathlib.Core.Path.{◌≡◌, sym}
use mathlib.Core.List.{◌∷◌, [], ◌++◌}
use Prim.Native.Nat.{◌+◌}
use native.Mathlib.Omega.{arith}
use lib.ListN.{length, length-append, get_or-eq_default}
use Rattle.std.proofs.lemmas.Iterator.Consumers.{YieldsList-end, YieldsList-from_enumerate, YieldsList-from_first, YieldsList-turn}
use Rattle.columns.specs.Columns.{members}
use Rattle.columns.specs.Rising.{to_come}
use Rattle.lists.proofs.Filling.{filled_none, filled_more, filled-zeros}
use Rattle.lists.proofs.Zeros.{zeros}
use Rattle.columns.proofs.MembersGiven.{Turn, numbered, all_numbered}
use Rattle.lanes.proofs.symbols.listed.Goals as goal
use Rattle.lanes.proofs.symbols.listed.Goals.{In-Some}

turn : (c : In-Some) → Turn c.args.set (length c.loop-k.yielded) c.in-Some.k c.in-Some.i
turn c =
    numbered _ _ _ _ (YieldsList-turn (YieldsList-from_enumerate (YieldsList-from_first (λ x. x) to_come (members c.args.set) cc) cc)
    c.loop-k.yielded _ c.loop-k.yielded_by _ _ (c.in-Some.k, c.in-Some.i) c.in-Some.is c.next.ensures.steps)

pub loop-k-init : goal.loop-k-init
loop-k-init c = filled_none _ (zeros 64)

pub overflow_cast-list : goal.overflow_cast-list
overflow_cast-list c = let t = turn c in omega arith

pub loop-k-preserved : goal.loop-k-preserved
loop-k-preserved c =
    let at = c.loop-k in
    let t = turn c in
    let less = t.inside in
    let few = c.requires in
    let more : length (at.yielded ++ ((c.in-Some.k, c.in-Some.i) ∷ [])) ≡ length at.yielded + 1 = length-append at.yielded ((c.in-Some.k, c.in-Some.i) ∷ []) in
    rw (more, t.number)
    (filled_more _ (zeros 64) (length at.yielded) _ _ at.invariant (let s = at.invariant.size in omega arith) (sym t.here))

pub returns : goal.returns
returns c =
    let at = c.loop-k in
    let all = all_numbered c.args.set (length at.yielded) _
    (YieldsList-end (YieldsList-from_enumerate (YieldsList-from_first (λ x. x) to_come (members c.args.set) cc) cc)
    at.yielded _ at.yielded_by _ _ c.in-None.is c.next.ensures.steps) in
    filled-zeros _ 64 (length at.yielded) _ at.invariant (λ k l. get_or-eq_default (members _) 0 (let e = all in omega arith))
