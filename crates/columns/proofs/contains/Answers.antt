-- `columns::contains` meets its contract.
use mathlib.Core.Path.{sym}
use borrow.Author.Rules.{rules}
use native.Mathlib.Omega.{arith}
use Rattle.columns.proofs.Marks.{sound, has-past}
use Rattle.columns.proofs.Words.{tested}
use Rattle.columns.proofs.contains.Goals as goal

pub returns-then-i-ge256 : goal.returns-then-i-ge256
returns-then-i-ge256 c = sym (has-past c.args.c (sound c.args.c (search rules) (λ w. search rules)) c.args.i (omega arith))

pub returns : goal.returns
returns c = tested c.args.c c.args.i
