-- `capi::eight::tomkhadi_jobs_peek` meets its contract, by that of the dispatcher.
use mathlib.Core.Path.{refl}
use Rattle.capi.specs.Dispatcher.{peeked_for}
use Rattle.capi.proofs.Giving.{gives}
use Rattle.capi.proofs.eight.tomkhadi_jobs_peek.Goals as goal

pub returns : goal.returns
returns c = λ taps last. gives peeked_for _ _ _ (c.peek.ensures taps last) c.peeked_of.ensures refl
