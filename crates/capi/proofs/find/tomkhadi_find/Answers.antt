-- `capi::find::tomkhadi_find` meets its contract, by the finder's.
use mathlib.Core.Path.{◌∙◌, ap}
use Rattle.mirror.specs.Mirror.{register_of}
use Rattle.capi.proofs.find.tomkhadi_find.Goals as goal

pub returns : goal.returns
returns c =
    record {
      answers = c.register_of.ensures ∙ ap register_of c.find.ensures.answers;
      leaves = c.find.ensures.leaves;
    }
