-- `window::input::lacking` meets its contract.
use Rattle.std.proofs.lemmas.Bool.{not-true, not-false}
use Rattle.window.proofs.Filling.{none_lacking, some_lacking}
use Rattle.window.proofs.input.lacking.Goals as goal

pub returns-then-not-w : goal.returns-then-not-w
returns-then-not-w c = none_lacking _ _ (not-true _ c.if-not-w.true)

pub returns : goal.returns
returns c = some_lacking _ _ _ (not-false _ c.if-not-w.false) c.claimed.ensures.0
