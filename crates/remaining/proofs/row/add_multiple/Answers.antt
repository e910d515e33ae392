use Rattle.lists.proofs.Filling.{filled_none}
use Rattle.remaining.proofs.Multiples.{next_fits, adding_more, adding_all}
use Rattle.remaining.proofs.row.add_multiple.Goals as goal

pub loop-j-init : goal.loop-j-init
loop-j-init c = filled_none _ _

pub overflow_add-totals : goal.overflow_add-totals
overflow_add-totals c = next_fits c.requires c.loop-j.invariant c.loop-j-test.true c.product.ensures

pub loop-j-preserved : goal.loop-j-preserved
loop-j-preserved c = adding_more c.requires c.loop-j.invariant c.loop-j-test.true c.product.ensures

pub returns : goal.returns
returns c = adding_all c.requires c.loop-j.invariant c.loop-j-test.false
