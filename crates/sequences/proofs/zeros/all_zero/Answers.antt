use Rattle.std.proofs.Common.{rules, eqb}
use Rattle.sequences.proofs.zeros.all_zero.Goals as goal

pub returns : goal.returns
returns c = c.every.ensures (λ v. eqb v 0) (λ v r b p. search rules)
