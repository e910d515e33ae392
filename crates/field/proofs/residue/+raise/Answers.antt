use Rattle.field.proofs.Halving.{zeroth_power, even_power, odd_power}
use Rattle.field.proofs.residue.+raise.Goals as goal

pub returns-then-e-eq0-clause-equals : goal.returns-then-e-eq0-clause-equals
returns-then-e-eq0-clause-equals t c = zeroth_power _ _ _ _ c.if-e-eq0.true c.requires.factor

pub returns-then-e-eq0-2-clause-equals : goal.returns-then-e-eq0-2-clause-equals
returns-then-e-eq0-2-clause-equals t c =
    even_power _ _ _ _ _ _ c.remainder-square.ensures.equals c.if-e-eq0-2.true c.raise.ensures.equals

pub returns-clause-equals : goal.returns-clause-equals
returns-clause-equals t c =
    odd_power _ _ _ _ _ _ c.remainder-square.ensures.equals c.if-e-eq0-2.false _ c.remainder.ensures.equals c.raise-2.ensures.equals
