-- `text::writers::put_byte` meets its contract.
use borrow.Author.Rules.{rules}
use Rattle.text.proofs.Writing.{written_byte}
use Rattle.text.proofs.writers.put_byte.Goals as goal

pub returns : goal.returns
returns c = written_byte _ _ _ (search rules)
