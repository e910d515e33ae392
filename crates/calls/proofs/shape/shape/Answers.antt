-- `calls::shape::shape` meets its contract.
use mathlib.Core.Path.{sym, ap, ◌∙◌}
use Rattle.std.proofs.lemmas.Result.{err_from_is_err_and}
use Rattle.job.specs.Job.{shaped_head}
use Rattle.locating.proofs.Steps.{passed-rows, shape-refused, shape-given}
use Rattle.calls.proofs.shape.shape.Goals as goal

pub shape_of-requires : goal.shape_of-requires
shape_of-requires c = passed-rows _ _ _ (sym c.in_ok-check_shape.ensures)

pub returns-in_err-check_shape : goal.returns-in_err-check_shape
returns-in_err-check_shape c =
    let e = err_from_is_err_and c.from_residual.result c.from_residual.ensures.1 in
    λ a. rw (e.1, e.2) (shape-refused _ _ _ _ _ (sym c.in_err-check_shape.ensures))

pub returns : goal.returns
returns c = λ a. shape-given _ _ _ _ (sym c.in_ok-check_shape.ensures) (c.shaped.ensures ∙ ap shaped_head c.shape_of.ensures)
