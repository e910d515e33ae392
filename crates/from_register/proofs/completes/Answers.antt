-- `from_register::completes` meets its contract.
use mathlib.Core.Path.{sym, ◌∙◌}
use Rattle.from_register.proofs.Completing.{testable, none_completes}
use Rattle.from_register.proofs.completes.Goals as goal

pub returns-then-none : goal.returns-then-none
returns-then-none c = c.if-none.true ∙ sym (none_completes _ _ _ _ _ c.requires c.if-none.true)

pub is_completable-requires : goal.is_completable-requires
is_completable-requires c = testable _ _ _ _ _ c.requires
