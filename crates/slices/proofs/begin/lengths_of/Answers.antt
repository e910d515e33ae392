use mathlib.Core.Path.{◌∙◌}
use borrow.Author.Rules.{rules}
use Rattle.slices.proofs.Beginning.{lengths-padded}
use Rattle.slices.proofs.begin.lengths_of.Goals as goal

pub returns : goal.returns
returns c = c.padded.ensures ∙ lengths-padded c.args.order c.args.count c.requires (search rules)
