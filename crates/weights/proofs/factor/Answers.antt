-- `weights::factor` meets its contract.
use mathlib.Core.Path.{ap₂, ◌∙◌}
use native.Mathlib.Omega.{arith}
use lib.ListN.{length}
use Rattle.field.specs.Residue.{times}
use Rattle.weights.proofs.ReadOff.{factor-is}
use Rattle.weights.proofs.factor.Goals as goal

pub returns-clause-equals : goal.returns-clause-equals
returns-clause-equals c =
    factor-is c.args.b (length c.args.others.now) c.args.i _ c.value_at-there.result c.entry-weight.result c.product-part.result
    c.inverse.result c.difference.result (omega (arith, c.requires.0.column)) c.value_at-there.ensures.equals
    (c.entry-weight.ensures.power c.requires.0.powers_known)
    (c.product-part.ensures.equals ∙ ap₂ (times 257) c.from.ensures c.from-2.ensures)
    c.inverse.ensures.equals c.difference.ensures.equals
