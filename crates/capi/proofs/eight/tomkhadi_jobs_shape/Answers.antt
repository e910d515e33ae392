-- `capi::eight::tomkhadi_jobs_shape` meets its contract, by that of the dispatcher.
use mathlib.Core.Path.{refl}
use Rattle.capi.specs.Dispatcher.{refusal_for}
use Rattle.capi.proofs.Giving.{gives}
use Rattle.capi.proofs.eight.tomkhadi_jobs_shape.Goals as goal

pub returns : goal.returns
returns c =
    λ sums taps held x last. gives refusal_for _ _ _ (c.shape.ensures sums taps held x last) c.refusal_of.ensures refl
