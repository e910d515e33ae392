-- `from_register::reaches` meets its contract.
use mathlib.Core.Path.{sym, ◌∙◌}
use Rattle.decoding.proofs.NothingDeclared.{reach-none}
use Rattle.frame.proofs.NothingDeclared.{rows-unmarked}
use Rattle.from_register.proofs.reaches.Goals as goal

pub returns-then-none : goal.returns-then-none
returns-then-none c =
    let asked = c.requires in
    c.rows_reach.ensures
    ∙ sym (reach-none _ asked.shape _ (rows-unmarked _ asked.shape _ (sym asked.flag ∙ c.if-none.true)) _)
