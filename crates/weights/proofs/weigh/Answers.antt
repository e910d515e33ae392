-- `weights::weigh` meets its contract.
use mathlib.Core.Path.{◌≡◌, ap, ◌∙◌}
use Prim.Native.Nat.{ℕ, suc}
use lib.ListN.{length}
use Rattle.field257.specs.Powers.{locator_of}
use Rattle.lists.specs.Tabulate.{tabulate}
use Rattle.lists.proofs.Tabulated.{length-tabulate}
use Rattle.weights.specs.Weights.{carried}
use Rattle.weights.proofs.Division.{quotient-below}
use Rattle.weights.proofs.ReadOff.{scaled-is}
use borrow.Author.Rules.{rules}
use Rattle.weights.proofs.weigh.Goals as goal
use Rattle.weights.proofs.weigh.Goals.{After-from}

-- the locator of the column
looked-up : (c : After-from) → c.from.result ≡ locator_of c.args.i
looked-up c = c.from.ensures ∙ c.entry.ensures.power c.requires.powers_known

pub factor-c-requires : goal.factor-c-requires
factor-c-requires c = (search rules, λ k. rw c.divide.ensures (quotient-below _ _ _ k))

pub returns : goal.returns
returns c =
    let args = c.args in
    let m = length args.row.now in
    scaled-is args.b m args.i (tabulate m (λ k. carried args.f.now (locator_of args.i) (suc k))) c.divide.new.quotient
    c.scale.new.row c.factor-c.result (length-tabulate m _)
    (c.divide.ensures ∙ ap (λ (x : ℕ). tabulate m (λ k. carried args.f.now x (suc k))) (looked-up (goal.at.returns c).After-from))
    c.factor-c.ensures.equals c.scale.ensures
