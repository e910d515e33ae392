-- `capi::eight::tomkhadi_jobs_turn` meets its contract, by that of the dispatcher.
use mathlib.Core.Path.{ap}
use Rattle.mirror.specs.declared.CAnswer.{CAnswer}
use Rattle.capi.proofs.Giving.{turn-gives}
use Rattle.capi.proofs.eight.tomkhadi_jobs_turn.Goals as goal

pub returns : goal.returns
returns c =
    turn-gives _ c.turn-turned.ensures (ap (λ (a : CAnswer). record { job = c.turn-turned.result.job; answer = a }) c.said_of.ensures)
