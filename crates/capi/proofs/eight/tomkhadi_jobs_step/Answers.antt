-- `capi::eight::tomkhadi_jobs_step` meets its contract, by that of the dispatcher.
use mathlib.Core.Path.{refl}
use Rattle.capi.specs.Dispatcher.{answer_for}
use Rattle.capi.proofs.Giving.{gives}
use Rattle.capi.proofs.eight.tomkhadi_jobs_step.Goals as goal

pub returns : goal.returns
returns c = λ last. gives answer_for _ _ _ (c.step.ensures last) c.said_of.ensures refl
