use Rattle.std.proofs.Common.{rules, leb}
use Rattle.sequences.proofs.check.short.Goals as goal

pub returns : goal.returns
returns c = c.every.ensures (λ v. leb v 128) (λ v r b p. search rules)
