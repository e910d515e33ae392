-- `tomkhadi::is_over` meets its contract.
use mathlib.Core.Path.{sym, ap}
use mathlib.Core.Bool.{Bool, false, cond}
use lib.Dec.{eqb}
use Rattle.tomkhadi.proofs.is_over.Goals as goal

pub returns : goal.returns
returns c = sym (ap (λ (b : Bool). cond b false (eqb c.args.w.start c.args.w.end)) c.if-w.false)
