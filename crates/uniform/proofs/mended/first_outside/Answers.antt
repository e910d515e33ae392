use mathlib.Core.Path.{sym, ap, ◌∙◌}
use mathlib.Core.Bool.{not}
use Rattle.columns.proofs.FirstOutside.{passed_none, passed-more, passed_out, passed-all}
use Rattle.uniform.proofs.mended.first_outside.Goals as goal

pub returns-then-not-contains : goal.returns-then-not-contains
returns-then-not-contains c = passed_out _ _ _ c.loop-k.invariant (ap not (sym c.contains.ensures ∙ c.if-not-contains.true))

pub returns : goal.returns
returns c = passed-all _ _ _ c.loop-k.invariant c.loop-k-test.false
