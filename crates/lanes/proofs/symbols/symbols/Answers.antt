-- `lanes::symbols::symbols` meets its contract.
use mathlib.Core.Path.{◌≡◌, ap, ◌∙◌}
use Prim.Native.Nat.{ℕ}
use lib.ListN.{length, get_or}
use Rattle.columns.specs.Columns.{members}
use Rattle.lanes.specs.Symbols.{locators_to, symbols_in}
use Rattle.lanes.proofs.SymbolsRead.{runnable, symbols_are}
use Rattle.lanes.proofs.symbols.symbols.Goals as goal
use Rattle.lanes.proofs.symbols.symbols.Goals.{After-locators_to-weights, After-locators_to-x}

-- the locators of all columns of the set, and their weights
locators : (c : After-locators_to-x) (k : ℕ) →
    let set = c.args.set in
    get_or c.locators_to-x.result k 0 ≡ get_or (locators_to (length (members set)) c.listed-list.result 1) k 0
locators c k =
    c.locators_to-x.ensures k ∙ ap (λ (m : ℕ). get_or (locators_to m c.listed-list.result 1) k 0) c.size-m.ensures

weights : (c : After-locators_to-weights) (k : ℕ) →
    let args = c.args in
    get_or c.locators_to-weights.result k 0 ≡ get_or (locators_to (length (members args.set)) c.listed-list.result args.b) k 0
weights c k =
    c.locators_to-weights.ensures k ∙ ap (λ (n : ℕ). get_or (locators_to n c.listed-list.result c.args.b) k 0) c.size-m.ensures

pub run-lanes-requires : goal.run-lanes-requires
run-lanes-requires c =
    rw c.size-m.ensures (runnable c.args.b c.args.set c.locator_polynomial-f.result c.args.sums.now c.listed-list.result
    c.locators_to-x.result c.locator_polynomial-f.ensures c.listed-list.ensures (locators (goal.at.run-lanes-requires c).After-locators_to-x) _ c.requires.1
    c.companions-z.ensures)

pub returns : goal.returns
returns c =
    λ k.
    c.divided.ensures k ∙ ap (λ (n : ℕ). get_or (symbols_in n c.locators_to-weights.result c.run-lanes.result) k 0) c.size-m.ensures
    ∙ symbols_are c.args.b c.args.set c.locator_polynomial-f.result c.args.sums.now c.listed-list.result c.locators_to-x.result
    c.locator_polynomial-f.ensures c.listed-list.ensures (locators (goal.at.returns c).After-locators_to-x) c.locators_to-weights.result (weights (goal.at.returns c).After-locators_to-weights) c.run-lanes.result
    (rw c.size-m.ensures at c.run-lanes.ensures) k
