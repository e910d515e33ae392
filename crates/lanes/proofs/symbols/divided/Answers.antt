use mathlib.Core.Path.{sym, ◌∙◌}
use native.Mathlib.Omega.{arith}
use Rattle.lanes.proofs.SymbolsRead.{lane-at, lane_past}
use Rattle.lists.proofs.Filling.{filled_none, filled_more, filled-zeros}
use Rattle.lists.proofs.Zeros.{zeros}
use Rattle.lanes.proofs.symbols.divided.Goals as goal

pub loop-k-init : goal.loop-k-init
loop-k-init c = filled_none _ (zeros 64)

pub loop-k-preserved : goal.loop-k-preserved
loop-k-preserved c =
    let at = c.loop-k in
    let few = c.requires in
    filled_more _ (zeros 64) at.k _ _ at.invariant (let s = at.invariant.size in omega arith)
    (c.symbol.ensures ∙ sym (lane-at _ _ _ at.k c.loop-k-test.true))

pub returns : goal.returns
returns c =
    let at = c.loop-k in
    filled-zeros _ 64 at.k _ at.invariant (λ k l. lane_past _ _ _ k (omega arith))
