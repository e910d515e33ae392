-- `erasures::fill::fill` meets its contract.
use mathlib.Core.Path.{◌∙◌}
use Rattle.erasures.proofs.FilledFrame.{cleared_fillable, filled_is}
use Rattle.erasures.proofs.fill.fill.Goals as goal

pub fill_rows-requires : goal.fill_rows-requires
fill_rows-requires c = cleared_fillable _ _ _ _ _ c.requires _ c.clear_rows.ensures

pub returns : goal.returns
returns c = c.fill_rows.ensures ∙ filled_is _ _ _ _ _ c.requires _ c.clear_rows.ensures
