-- `capi::jobs::tomkhadi_head_empty` meets its contract, by those of the functions that it calls.
use mathlib.Core.Path.{◌∙◌, ap}
use Rattle.mirror.specs.Mirror.{mirror_of}
use Rattle.capi.proofs.jobs.tomkhadi_head_empty.Goals as goal

pub returns : goal.returns
returns c = c.mirror_of.ensures ∙ ap mirror_of c.empty.ensures
