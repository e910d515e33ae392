-- `record::parse::whole` meets its contract.
use native.Mathlib.Omega.{arith}
use Rattle.record.proofs.Parsing.{short_claim, odd_claim, even_claim}
use Rattle.record.proofs.parse.whole.Goals as goal

pub returns-then-n-lt2-clause-value : goal.returns-then-n-lt2-clause-value
returns-then-n-lt2-clause-value c = short_claim _ _ c.claimed-n.ensures.0 (omega arith)

pub returns-then-n-ne0-clause-value : goal.returns-then-n-ne0-clause-value
returns-then-n-ne0-clause-value c = odd_claim _ _ c.claimed-n.ensures.0 (omega arith) c.if-n-ne0.true

pub returns-clause-value : goal.returns-clause-value
returns-clause-value c = even_claim _ _ c.claimed-n.ensures.0 (omega arith) (omega arith)
