-- `searching::begin::begin_left` meets its contract.
use mathlib.Core.Path.{◌≡◌, refl}
use lib.ListN.{get_or}
use Rattle.decoding.specs.Remaining.{all_remaining}
use Rattle.frame.specs.DeclaredCells.{declared_by}
use Rattle.frame.specs.Frame.{held_sequences}
use Rattle.lists.specs.Total.{total}
use Rattle.locating.proofs.Lending.{Lent, left-lent, left-counted}
use borrow.Author.Rules.{rules}
use Rattle.searching.proofs.Beginning.{lent_beginnable, lent-begun}
use Rattle.searching.proofs.begin.begin_left.Goals as goal
use Rattle.searching.proofs.begin.begin_left.Goals.{After-all_remaining-left}

lent : (c : After-all_remaining-left) →
    let args = c.args in
    let left = c.all_remaining-left.result in
    Lent args.s.rows left.lengths left.symbols
    (all_remaining args.s (declared_by args.declared.now) (held_sequences args.s args.sums.now))
lent c =
    let args = c.args in
    left-lent args.s c.requires.shape (declared_by args.declared.now) args.sums.now c.all_remaining-left.result
    c.all_remaining-left.ensures (search rules) (search rules)

counted : (c : After-all_remaining-left) →
    let left = c.all_remaining-left.result in
    left.count ≡ total c.args.s.rows (λ h. get_or left.lengths h 0)
counted c = left-counted c.args.s c.requires.shape _ _ c.all_remaining-left.result c.all_remaining-left.ensures

pub begin_lent-requires : goal.begin_lent-requires
begin_lent-requires c =
    lent_beginnable (lent (goal.at.begin_lent-requires c).After-all_remaining-left) _ (counted (goal.at.begin_lent-requires c).After-all_remaining-left)

pub returns : goal.returns
returns c =
    lent-begun (lent (goal.at.returns c).After-all_remaining-left) _ (counted (goal.at.returns c).After-all_remaining-left) refl _ c.begin_lent.ensures
