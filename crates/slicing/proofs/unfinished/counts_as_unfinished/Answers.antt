-- `slicing::unfinished::counts_as_unfinished` meets its contract.
use Rattle.job.proofs.Emptiness.{has-shape}
use Rattle.slicing.proofs.unfinished.counts_as_unfinished.Goals as goal

pub is_step_sound-requires : goal.is_step_sound-requires
is_step_sound-requires c = has-shape _ c.requires
