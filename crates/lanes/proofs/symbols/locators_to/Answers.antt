use mathlib.Core.Path.{◌≡◌, sym, ap, ◌∙◌}
use Prim.Native.Nat.{ℕ, ◌*◌}
use native.Mathlib.Omega.{arith}
use lib.ListN.{get_or}
use Rattle.field257.specs.Powers.{power_of3}
use Rattle.lanes.specs.Symbols.{locators_to}
use Rattle.lists.proofs.Filling.{filled_none, filled_more, filled-zeros}
use Rattle.lists.proofs.Tabulated.{get_d_tabulate, get_or-tabulate-past}
use Rattle.lists.proofs.Zeros.{zeros}
use Rattle.lanes.proofs.symbols.locators_to.Goals as goal

pub loop-k-init : goal.loop-k-init
loop-k-init c = filled_none _ (zeros 64)

pub loop-k-preserved : goal.loop-k-preserved
loop-k-preserved c =
    let at = c.loop-k in
    let args = c.args in
    -- the power that is looked up is that of this column
    let power : c.entry.result ≡ get_or (locators_to args.m args.list.now args.e) at.k 0 =
    c.entry.ensures.power c.requires.powers_known ∙ ap (λ (i : ℕ). power_of3 (i * args.e)) c.from.ensures
    ∙ sym (get_d_tabulate args.m _ _ 0 c.loop-k-test.true) in
    let few = c.requires.few in
    filled_more _ (zeros 64) at.k _ _ at.invariant (let s = at.invariant.size in omega arith) power

pub returns : goal.returns
returns c =
    let at = c.loop-k in
    filled-zeros _ 64 at.k _ at.invariant (λ k l. get_or-tabulate-past _ _ k 0 (omega arith))
