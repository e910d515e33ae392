-- `due` answers the discrepancy that is due.
use mathlib.Core.Path.{◌∙◌}
use native.Mathlib.Nat.{zero-mod}
use Rattle.discrepancy.proofs.Products.{not-due, is-due}
use Rattle.discrepancy.proofs.due.due.Goals as goal

pub returns-then-n-l-clause-p_value : goal.returns-then-n-l-clause-p_value
returns-then-n-l-clause-p_value c = zero-mod _ ∙ not-due c.requires.in_reach _ c.if-n-l.true

pub returns-clause-p_value : goal.returns-clause-p_value
returns-clause-p_value c = is-due c.requires.in_reach c.if-n-l.false _ c.sum_at.ensures.p_value
