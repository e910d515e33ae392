-- `capi::roots::tomkhadi_search` meets its contract, by the search's.
use mathlib.Core.Path.{◌∙◌, ap}
use Rattle.mirror.specs.Mirror.{columns_for}
use Rattle.capi.proofs.roots.tomkhadi_search.Goals as goal

pub returns : goal.returns
returns c = c.columns_of.ensures ∙ ap columns_for c.search.ensures
