-- `kept::heads::put_head` meets its contract.
use mathlib.Core.Path.{ap}
use Rattle.kept.specs.Kept.{heads, with_numbers}
use Rattle.kept.proofs.heads.put_head.Goals as goal

pub returns : goal.returns
returns c =
    let a = c.args in
    ap (with_numbers (heads a.states.now a.extents.now a.checks.now a.marks.now) a.k) c.mirror_of-m.ensures
