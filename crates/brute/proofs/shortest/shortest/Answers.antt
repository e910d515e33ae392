use Rattle.std.proofs.Common.{arith}
use Rattle.brute.proofs.Searching.{none_yet, none_more, found, not_found}
use Rattle.brute.proofs.shortest.shortest.Goals as goal

pub loop-l-init : goal.loop-l-init
loop-l-init c = (omega arith, none_yet _ _ _ _)

pub returns-then-solvable : goal.returns-then-solvable
returns-then-solvable c =
    found _ _ _ _ c.loop-l.l _ _ c.loop-l.invariant.1 (omega arith) _ c.solvable.ensures c.if-solvable.true _ c.determined-alone.ensures

pub loop-l-preserved : goal.loop-l-preserved
loop-l-preserved c =
    (omega arith, none_more _ _ _ _ c.loop-l.l _ _ c.loop-l.invariant.1 (omega arith) _ c.solvable.ensures c.if-solvable.false)

pub returns : goal.returns
returns c = not_found _ _ _ _ c.loop-l.l _ c.loop-l.invariant.1 c.loop-l.invariant.0 (omega arith)
