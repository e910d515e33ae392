-- `record::parse::claimed` meets its contract.
use mathlib.Core.Path.{◌∙◌}
use native.Mathlib.Omega.{arith}
use borrow.Author.Rules.{rules}
use Rattle.record.proofs.Parsing.{claims, claims-nothing}
use Rattle.record.proofs.parse.claimed.Goals as goal

pub returns-in_default : goal.returns-in_default
returns-in_default c = (claims-nothing _ c.in_default.ensures, omega arith)

pub returns : goal.returns
returns c = (c.from.ensures ∙ claims _ _ c.in-Some.ensures, search rules)
