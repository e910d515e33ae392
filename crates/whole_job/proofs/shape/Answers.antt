-- `whole_job::shape` meets its contract.
use Rattle.std.proofs.lemmas.Result.{err_from_is_err_and}
use Rattle.whole_job.specs.Whole.{arrays_of}
use Rattle.whole_job.proofs.shape.Goals as goal

pub returns-in_err-head : goal.returns-in_err-head
returns-in_err-head c =
    let e = err_from_is_err_and c.from_residual.result c.from_residual.ensures.1 in
    rw (e.1, e.2) (c.in_err-head.ensures (arrays_of c.args.j))

pub returns : goal.returns
returns c = c.in_ok-head.ensures (arrays_of c.args.j)
