use Rattle.std.proofs.Common.{rules, ltb}
use Rattle.sequences.proofs.check.below.Goals as goal

pub returns : goal.returns
returns c = c.every.ensures (λ v. ltb v c.args.p) (λ v r b p. search rules)
