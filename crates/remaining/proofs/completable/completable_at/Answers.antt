-- `remaining::completable::completable_at` meets its contract.
use mathlib.Core.Path.{ap, ◌∙◌}
use Rattle.sequences.specs.Zeros.{all_zero}
use Rattle.remaining.proofs.RowsCompletable.{written-part}
use Rattle.remaining.proofs.completable.completable_at.Goals as goal

pub returns : goal.returns
returns c =
    c.all_zero.ensures
    ∙ ap all_zero (written-part c.args.set c.args.sums.now _ _ c.requires.sums-few c.size.ensures c.remaining.ensures)
