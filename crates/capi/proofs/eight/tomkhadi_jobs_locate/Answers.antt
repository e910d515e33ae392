-- `capi::eight::tomkhadi_jobs_locate` meets its contract, by that of the dispatcher.
use mathlib.Core.Path.{refl}
use Rattle.capi.specs.Dispatcher.{answer_for}
use Rattle.capi.proofs.Giving.{gives}
use Rattle.capi.proofs.eight.tomkhadi_jobs_locate.Goals as goal

pub returns : goal.returns
returns c = λ x last. gives answer_for _ _ _ (c.locate.ensures x last) c.said_of.ensures refl
