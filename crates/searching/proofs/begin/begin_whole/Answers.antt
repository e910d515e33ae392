-- `searching::begin::begin_whole` meets its contract.
use mathlib.Core.Path.{refl}
use Rattle.frame.specs.Frame.{held_sequences}
use Rattle.locating.proofs.Lending.{Lent, held-lent}
use borrow.Author.Rules.{rules}
use Rattle.searching.proofs.Beginning.{lent_beginnable, lent-begun}
use Rattle.searching.proofs.begin.begin_whole.Goals as goal
use Rattle.searching.proofs.begin.begin_whole.Goals.{After-sum_count}

-- the sums are lent as they are held
lent : (c : After-sum_count) →
    let args = c.args in
    Lent args.s.rows args.s.checks args.sums.now (held_sequences args.s args.sums.now)
lent c =
    held-lent c.args.s c.requires.s_value c.args.sums.now c.requires.by_index (search rules) (search rules)

pub begin_lent-requires : goal.begin_lent-requires
begin_lent-requires c = lent_beginnable (lent (goal.at.begin_lent-requires c).After-sum_count) _ c.sum_count.ensures

pub returns : goal.returns
returns c =
    lent-begun (lent (goal.at.returns c).After-sum_count) _ c.sum_count.ensures refl _ c.begin_lent.ensures
