-- What is owed of eight jobs holds.
use Rattle.turns.proofs.Calling.{calling}
use Rattle.turns.proofs.Fairness.{fair}
use Rattle.turns.proofs.Turning.{turning}
use Rattle.eight_jobs.specs.Demands.{Dispatches}
use Rattle.eight_jobs.specs.Eight.{jobs, dispatched}
use Rattle.eight_jobs.proofs.Done.{done-within_4096}
use Rattle.eight_jobs.proofs.Projecting.{below, projected}
use Rattle.eight_jobs.proofs.Reached.{reached_4096}
use Rattle.eight_jobs.proofs.Steps.{serves-steps}

pub dispatches : Dispatches
dispatches =
    record {
      projected = projected;
      calling = λ a es k c. calling jobs (dispatched a es) k c;
      turning = λ a es. turning jobs (dispatched a es) (below a es);
      service_steps = λ a before es k. serves-steps k (dispatched a before) es;
      served-within_8 = λ a before es k b u eight. fair jobs (dispatched a before) es k (below a before) b u eight;
      done-within_4096 = done-within_4096;
      reached_4096 = reached_4096;
    }
