use borrow.Author.Rules.{rules}
use Rattle.text.specs.Line.{columns_line}
use Rattle.text.proofs.Writing.{written-nothing}
use Rattle.text.proofs.answers.reply_line.Goals as goal

pub returns-in-Err-clause-written : goal.returns-in-Err-clause-written
unfolding columns_line
returns-in-Err-clause-written c = search rules

pub returns-in-Ok-Unfinished-clause-written : goal.returns-in-Ok-Unfinished-clause-written
unfolding columns_line
returns-in-Ok-Unfinished-clause-written c = search (rules, written-nothing)
