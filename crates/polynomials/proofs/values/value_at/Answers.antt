use mathlib.Core.Path.{◌∙◌}
use borrow.Author.Rules.{rules}
use Rattle.field257.proofs.Accumulation.{more, finished}
use Rattle.polynomials.proofs.values.value_at.Goals as goal
use Rattle.polynomials.proofs.values.value_at.Goals.{After-from-total}

-- the coefficients up to the last multiple of four are taken
pub loop-k-preserved : goal.loop-k-preserved
loop-k-preserved c =
    more c.args.f.now c.args.e c.loop-k.k c.loop-k.exponent c.loop-k.total c.loop-k.invariant
    c.entry.result (c.entry.ensures.power c.requires.powers_known)
    c.from-total.result c.loop-k-test.true (search rules) (c.from-total.ensures ∙ c.product.ensures)

pub returns-clause-equals : goal.returns-clause-equals
returns-clause-equals c = finished c.args.f.now c.args.e _ _ _ c.loop-k.invariant c.loop-k-test.false
